-- Which menus are agreed follows from the messages that a fresh reader reports: of each record since, the message reported last is that of
-- the reports so far, and whatever is being heard behind a sync has the kind of that sync.
-- Assumes nothing.
use Prim.Native.Nat.{ℕ, zero, suc, ◌≤◌}
use native.Mathlib.Omega.{arith}
use mathlib.Core.Path.{◌≡◌, refl, sym, ap, ap₂, subst, ◌∙◌}
use mathlib.Core.Bool.{Bool, true, false}
use mathlib.Core.List.{List, [], ◌∷◌}
use borrow.Author.Tests.{ltb-true, eq-eqb}
use lib.Dec.{ltb}
use lib.ListN.{replicate}
use Rattle.laws.specs.Logic.{when, both}
use Rattle.laws.specs.Tests.{same_list}
use Rattle.laws.proofs.Logic.{both_neither}
use Rattle.octets.specs.declared.Kind.{Kind}
use Rattle.octets.specs.declared.Kind.TheVariants.{Ci, Menu}
use Rattle.octets.specs.Lists.{readable}
use Rattle.framing.specs.Framing.{nothing as idle, start_ci, start_menu, store, report, tell_cj, refusal_act, refusal_in, hunting, boundary, pushed}
use Rattle.framing.proofs.Places.{Places, hunts, inside_sync_lem, accepts, passes_over, opens_octet, opens_end, inside_octet_lem, stop_zero_lem, bad_octet_lem, too_many, stores, cut_short, inside_end, reports as reporting, hunted_low, turning, Turns, tells_cj_lem, is_placed, turned_as}
use Rattle.listening.specs.declared.Message.{Message}
use Rattle.listening.specs.declared.Listener.{Listener}
use Rattle.listening.specs.Hearing.{HearOutcome, octets_of, changed, agreed, reported, told, told_alone, acted, heard_in, heard_bit}
use Rattle.listening.specs.Record.{in_range, fresh}
use Rattle.listening.proofs.Acts.{heard_not_a_bit}
use Rattle.listening.proofs.Ranges.{fits_range, fresh_fits, heard_range, heard_inside}
use Rattle.stretches.specs.Hearing.{Report, message, message_of, cj, refusal, noted, reports, Earlier, nothing, earlier, agrees, flagged, agrees_again, repeated}
use Rattle.stretches.specs.Stretch.{AcceptedMessage}
use Rattle.stretches.specs.Heard.{coded}
use Rattle.stretches.proofs.Sound.{accepted_readable}
use Rattle.stretches.proofs.Plain.{bare}

-- the message reported last
abbrev LastIs : Earlier → Message → Type 0
LastIs nothing m = m.kind ≡ 0
LastIs (earlier kind octets) m = (m.kind ≡ coded kind) × (octets_of m ≡ octets)

-- what a record holds of the reports so far
record Remembers (before : Earlier) (rec : Listener) : Type 0 where
  pub last : LastIs before rec.last
  pub kind : boundary ≤ rec.ear.place → (kind : Kind) × (rec.msg.kind ≡ coded kind)

agreed_as : (before : Earlier) (m last : Message) → m.kind ≡ coded Menu → LastIs before last → agreed m last ≡ agrees before Menu (octets_of m)
unfolding agreed both
agreed_as nothing m last is-menu is = simp (is-menu, is) (both_neither (readable (octets_of m)))
agreed_as (earlier Ci octets) m last is-menu is = simp (is-menu, is.0) (both_neither (readable (octets_of m)))
agreed_as (earlier Menu octets) m last is-menu is = simp (is-menu, is.0, is.1)

-- what a bit notes is flagged as the reports so far say, and what it leaves remembers it
record Flags (before : Earlier) (o : HearOutcome) : Type 0 where
  pub after : Earlier
  pub same : (later : List Report) → flagged before (noted o.report o.rec.msg later) ≡ noted o.report o.rec.msg (flagged after later)
  pub remembers : Remembers after o.rec

module _ (before : Earlier) (rec : Listener) (r : Remembers before rec) (bit : ℕ) where
  abbrev by : ℕ → ℕ → HearOutcome
  by to act = acted rec (turning rec.ear bit to act)

  -- a bit that reports no message
  passes : (to act : ℕ) → ((later : List Report) → flagged before (noted (by to act).report (by to act).rec.msg later) ≡ noted (by to act).report (by to act).rec.msg (flagged before later))
      → (boundary ≤ to → (kind : Kind) × ((by to act).rec.msg.kind ≡ coded kind)) → ((by to act).rec.last ≡ rec.last) → Flags before (by to act)
  unfolding acted
  passes to act same kind kept = record { after = before; same = same; remembers = record { last = subst (LastIs before) (sym kept) r.last; kind = kind } }

  -- and one that does
  by_kind : (kind : Kind) → rec.msg.kind ≡ coded kind → Flags before (by hunting report)
  unfolding acted changed told reported when flagged
  by_kind Ci is = record { after = earlier Ci (octets_of rec.msg); same = λ later. simp is; remembers = record { last = (is, refl); kind = λ h. absurd (let z : ⊥ = omega arith in z) } }
  by_kind Menu is = record {
    after = earlier Menu (octets_of rec.msg);
    same = λ later. simp (is, agreed_as before rec.msg rec.last is r.last);
    remembers = record { last = (is, refl); kind = λ h. absurd (let z : ⊥ = omega arith in z) };
  }

  placed_flags : {to act : ℕ} → Places rec.ear.place rec.ear.past (pushed rec.ear.past bit) rec.msg.len bit to act → Flags before (by to act)
  unfolding acted changed told told_alone refusal_in when flagged
  placed_flags (hunts at) = passes _ idle (λ later. refl) (λ high. absurd (omega (arith, hunted_low rec.ear.past bit))) refl
  placed_flags (inside_sync_lem some few) = passes _ idle (λ later. refl) (λ high. absurd (omega arith)) refl
  placed_flags (accepts Ci at word) = passes _ start_ci (λ later. refl) (λ high. (Ci, refl)) refl
  placed_flags (accepts Menu at word) = passes _ start_menu (λ later. refl) (λ high. (Menu, refl)) refl
  placed_flags (passes_over at not-ci not-menu) = passes _ idle (λ later. refl) (λ high. absurd (omega arith)) refl
  placed_flags (opens_octet at is_zero) = passes _ idle (λ later. refl) (λ high. r.kind (omega (arith, at))) refl
  placed_flags (opens_end at one) = passes _ idle (λ later. refl) (λ high. r.kind (omega (arith, at))) refl
  placed_flags (inside_octet_lem some few) = passes _ idle (λ later. refl) (λ high. r.kind (omega arith)) refl
  placed_flags (stop_zero_lem at is_zero) = passes _ (refusal_act 2) (λ later. refl) (λ high. absurd (omega arith)) refl
  placed_flags (bad_octet_lem at one is-bad) = passes _ (refusal_act 3) (λ later. refl) (λ high. absurd (omega arith)) refl
  placed_flags (too_many at one full) = passes _ (refusal_act 4) (λ later. refl) (λ high. absurd (omega arith)) refl
  placed_flags (stores at one fine room) = passes _ store (λ later. refl) (λ high. r.kind (omega (arith, at))) refl
  placed_flags (cut_short some is_zero) = passes _ (refusal_act 13) (λ later. refl) (λ high. absurd (omega (arith, hunted_low rec.ear.past bit))) refl
  placed_flags (inside_end some few one) = passes _ idle (λ later. refl) (λ high. r.kind (omega arith)) refl
  placed_flags (reporting late one) = let kind = r.kind (omega arith) in by_kind kind.0 kind.1

  turned_flags : {to act : ℕ} → Turns rec.ear rec.msg.len bit to act → Flags before (by to act)
  unfolding acted changed told told_alone when flagged
  turned_flags (tells_cj_lem e) = passes _ tell_cj (λ later. refl) (λ high. absurd (omega arith)) refl
  turned_flags (is_placed e p) = placed_flags p

  -- a byte, which may be no bit
  byte_flags : in_range rec ≡ true → (no_bit : Bool) → ltb 1 bit ≡ no_bit → Flags before (heard_bit rec bit)
  unfolding flagged heard_in when
  byte_flags range true e = subst (Flags before) (sym (heard_inside rec bit range ∙ heard_not_a_bit rec bit (ltb-true 1 bit e))) (record { after = before; same = λ later. refl; remembers = r })
  byte_flags range false e =
      let turn = turned_as rec.ear rec.msg.len bit in
      subst (Flags before) (sym (heard_inside rec bit range ∙ simp (e, turn.is))) (turned_flags turn.by)

flags_since : (bytes : List ℕ) (before : Earlier) (rec : Listener) → in_range rec ≡ true → Remembers before rec → flagged before (reports rec bytes) ≡ reports rec bytes
unfolding reports flagged
flags_since [] before rec range r = refl
flags_since (bit ∷ bytes) before rec range r =
    let flags = byte_flags before rec r bit range (ltb 1 bit) refl in
    flags.same (reports (heard_bit rec bit).rec bytes)
    ∙ ap (noted (heard_bit rec bit).report (heard_bit rec bit).rec.msg) (flags_since bytes flags.after (heard_bit rec bit).rec (heard_range rec bit range) flags.remembers)

pub fresh_flags : (bytes : List ℕ) → flagged nothing (reports fresh bytes) ≡ reports fresh bytes
fresh_flags bytes = flags_since bytes nothing fresh (fits_range fresh fresh_fits) (record { last = refl; kind = λ h. absurd (let z : ⊥ = omega arith in z) })

-- flags do not matter to what is flagged anew
flagged_bare : (before : Earlier) (told : List Report) → flagged before (bare told) ≡ flagged before told
unfolding flagged bare
flagged_bare before [] = refl
flagged_bare before (message kind octets flag span ∷ later) = ap (λ (l : List Report). message kind octets (agrees before kind octets) span ∷ l) (flagged_bare (earlier kind octets) later)
flagged_bare before (cj ∷ later) = ap (λ (l : List Report). cj ∷ l) (flagged_bare before later)
flagged_bare before (refusal n ∷ later) = ap (λ (l : List Report). refusal n ∷ l) (flagged_bare before later)

-- so the messages tell which of them are agreed
pub by_messages : (bytes : List ℕ) (told : List Report) → bare (reports fresh bytes) ≡ told → reports fresh bytes ≡ flagged nothing told
by_messages bytes told e = sym (fresh_flags bytes) ∙ sym (flagged_bare nothing (reports fresh bytes)) ∙ ap (flagged nothing) e

-- a message that the writer accepts agrees with itself
same_list_lem : (l : List ℕ) → same_list l l ≡ true
unfolding same_list both
same_list_lem [] = refl
same_list_lem (x ∷ l) = simp (eq-eqb x x refl) (same_list_lem l)

agrees_again_lem : (kind : Kind) (octets : List ℕ) → AcceptedMessage kind octets → agrees (earlier kind octets) kind octets ≡ agrees_again kind
unfolding both
agrees_again_lem Ci octets accepted = refl
agrees_again_lem Menu octets accepted = simp (eq-eqb _ _ (accepted_readable Menu octets accepted), same_list_lem octets)

module _ (kind : Kind) (octets : List ℕ) (accepted : AcceptedMessage kind octets) where
  flagged_later : (n : ℕ) → flagged (earlier kind octets) (replicate n (message_of kind octets false)) ≡ replicate n (message_of kind octets (agrees_again kind))
  unfolding flagged
  flagged_later zero = refl
  flagged_later (suc n) = ap₂ (λ (flag : Bool) (l : List Report). message_of kind octets flag ∷ l) (agrees_again_lem kind octets accepted) (flagged_later n)

  first_alone : (k : Kind) → agrees nothing k octets ≡ false
  first_alone Ci = refl
  first_alone Menu = refl

  pub flagged_repeated : (n : ℕ) → flagged nothing (replicate n (message_of kind octets false)) ≡ repeated kind octets n
  unfolding flagged
  flagged_repeated zero = refl
  flagged_repeated (suc n) = ap₂ (λ (flag : Bool) (l : List Report). message_of kind octets flag ∷ l) (first_alone kind) (flagged_later n)
