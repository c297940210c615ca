-- Many bits, one at a time: what a loop over them cites.
-- Assumes nothing.
use Prim.Native.Nat.{ℕ, ◌<◌, ◌≤◌, ◌+◌, ◌/◌}
use native.Mathlib.Numerals.{add-one}
use native.Mathlib.Omega.{arith}
use mathlib.Core.Path.{◌≡◌, refl, sym, ap, ap₂, ◌∙◌}
use mathlib.Core.Bool.{false}
use mathlib.Core.List.{List}
use borrow.Author.Tests.{le-ltb, eq-eqb, ne_eqb, eqb-true, eqb-false}
use lib.Dec.{eqb}
use lib.ListN.{length, drop, get_or, drop_of_length-le}
use lib.Seq.{drop-cons}
use Rattle.laws.specs.Logic.{when, both}
use Rattle.laws.proofs.Logic.{either_way, both_true, either_false}
use Rattle.sequences.specs.Line.{cj}
use Rattle.framing.specs.declared.Ear.{Ear}
use Rattle.framing.specs.declared.Turned.{Turned}
use Rattle.framing.specs.Framing.{pushed, more, is_cj, last_ten, go, hunted, placed, turned, stay, turned_to}
use Rattle.leaps.specs.declared.Advanced.{Advanced}
use Rattle.leaps.specs.declared.Passed.{Passed}
use Rattle.framing.specs.Framing.{value, turned_by}
use Rattle.leaps.specs.Leaps.{advanced_to, advanced}
use Rattle.leaps.specs.Inner.{full, resumed, stands_out, Leads, Passes}

-- one bit of many
module _ (ear : Ear) (len : ℕ) (s : List ℕ) (i n : ℕ) where
  pub advanced_end : length s ≤ i → advanced ear len (drop i s) n ≡ advanced_to (stay ear 0) n
  unfolding advanced
  advanced_end over = simp (drop_of_length-le s over)

  module _ (there : i < length s) (next : Turned) (is-next : next ≡ turned_by ear len (get_or s i 0)) where
    pub advanced_on : next.act ≡ 0 → advanced ear len (drop i s) n ≡ advanced next.ear len (drop (i + 1) s) (n + 1)
    unfolding advanced when
    advanced_on quiet = simp (drop-cons s i 0 there, ← is-next, eq-eqb _ _ quiet, add-one i)

    pub advanced_asked : (next.act ≡ 0 → ⊥) → advanced ear len (drop i s) n ≡ advanced_to next (n + 1)
    unfolding advanced when
    advanced_asked asks = simp (drop-cons s i 0 there, ← is-next, ne_eqb _ _ asks)

-- where nothing was asked for, the bits that are left are heard; otherwise that is all
module _ (r : Advanced) (len : ℕ) (s : List ℕ) where
  pub resumed_on : r.act ≡ 0 → resumed r len s ≡ advanced r.ear len (drop r.at s) r.at
  unfolding resumed when
  resumed_on quiet = simp (eq-eqb _ _ quiet)

  pub resumed_end : r.act ≡ 0 → length s ≤ r.at → resumed r len s ≡ r
  resumed_end quiet over = resumed_on quiet ∙ advanced_end r.ear len s r.at r.at over ∙ ap (λ (act : ℕ). record { ear = r.ear; act = act; at = r.at }) (sym quiet)

  pub resumed_asked : (r.act ≡ 0 → ⊥) → resumed r len s ≡ r
  unfolding resumed when
  resumed_asked asks = simp (ne_eqb _ _ asks)

-- a bit turns a full ear, where it brings no CJ
pub turned_full : (past place len bit : ℕ) → bit ≤ 1 → (pushed past bit / 4 ≡ value cj → ⊥) → turned_by (full past place) len bit ≡ turned_to (pushed past bit) 30 (placed place past (pushed past bit) len bit)
unfolding turned is_cj more when both
turned_full past place len bit is_bit_lem not_cj = simp (le-ltb 1 bit is_bit_lem, ne_eqb _ _ not_cj)

-- a 0 behind ten 1s is all that ends the hunting
still_hunting : (past bit : ℕ) → (pushed past bit / 2097152 ≡ 1023 → ⊥) → hunted past bit ≡ 0
unfolding hunted
still_hunting past bit no-sync =
    either_way (λ (p : ℕ). p ≡ 0) (both (eqb bit 0) (eqb (last_ten past) 1023)) 1 0
    (λ hold.
    let tests = both_true _ _ hold in
    let zero = eqb-true bit 0 tests.0 in
    let ones = eqb-true (last_ten past) 1023 tests.1 in
    absurd (no-sync (omega (arith, zero, ones))))
    (λ _. refl)

-- a bit that leaves a hunting ear hunting
goes_by : (past len bit : ℕ) → bit ≤ 1 → stands_out (pushed past bit) ≡ false → turned_to (pushed past bit) 30 (go 0 0) ≡ turned_by (full past 0) len bit
unfolding stands_out placed when
goes_by past len bit is_bit_lem plain =
    let tests = either_false _ _ plain in
    sym (turned_full past 0 len bit is_bit_lem (eqb-false _ _ tests.0) ∙ simp (still_hunting past bit (eqb-false _ _ tests.1)))

pub hunts_on : (past bit len : ℕ) (s : List ℕ) (i : ℕ) → i < length s → bit ≡ get_or s i 0 → bit ≤ 1 → stands_out (pushed past bit) ≡ false
    → advanced (full past 0) len (drop i s) i ≡ advanced (full (pushed past bit) 0) len (drop (i + 1) s) (i + 1)
hunts_on past bit len s i there here is_bit_lem plain =
    advanced_on (full past 0) len s i i there (turned_to (pushed past bit) 30 (go 0 0)) (goes_by past len bit is_bit_lem plain ∙ ap (turned_by (full past 0) len) here) refl

-- no leap
pub stays : (ear : Ear) (len : ℕ) (s : List ℕ) (from : ℕ) → Leads ear len s from (advanced_to (stay ear 0) from)
stays ear len s from = record { on = omega arith; same = sym (resumed_on (advanced_to (stay ear 0) from) len s refl) }

pub is_full : (ear : Ear) (place : ℕ) → ear.heard ≡ 30 → ear.place ≡ place → ear ≡ full ear.past place
is_full ear place thirty there = ap₂ (λ (heard at : ℕ). record { past = ear.past; heard = heard; place = at }) thirty there

-- a leap to a bit that asks for something
pub leads_asked : (ear : Ear) (len : ℕ) (s : List ℕ) (from : ℕ) (r : Advanced) → from ≤ r.at → (r.act ≡ 0 → ⊥) → advanced ear len (drop from s) from ≡ r → Leads ear len s from r
leads_asked ear len s from r on asks same = record { on = on; same = same ∙ sym (resumed_asked r len s asks) }

-- a leap behind the bits that go by
pub leads_behind : (past len : ℕ) (s : List ℕ) (from : ℕ) (p : Passed) (r : Advanced) → Passes past s from p → Leads (full p.past 0) len s p.at r → Leads (full past 0) len s from r
leads_behind past len s from p r passes leads = record { on = omega (arith, passes.on, leads.on); same = passes.same len ∙ leads.same }
