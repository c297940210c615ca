-- A sync of another kind than ours is passed over, bit after bit, and stored octets stay until the next sync that is accepted.
-- Assumes nothing.
use Prim.Native.Nat.{ℕ, suc, ◌<◌, ◌≤◌, ◌+◌}
use native.Mathlib.Omega.{arith}
use mathlib.Core.Path.{◌≡◌, refl, sym, ap, ◌∙◌}
use mathlib.Core.Bool.{Bool, true, false}
use mathlib.Core.List.{List, [], ◌∷◌, ◌++◌, append_assoc}
use borrow.Author.Tests.{ltb-true, ltb-false}
use lib.Dec.{ltb, lit<}
use lib.ListN.{length, length-append}
use Rattle.laws.specs.Logic.{when}
use Rattle.laws.proofs.Logic.{clash}
use Rattle.octets.specs.declared.Kind.{Kind}
use Rattle.sequences.specs.Line.{ten_ones, sync}
use Rattle.framing.specs.Framing.{hunting, in_sync, last_of_sync, boundary}
use Rattle.framing.proofs.Places.{Asks, no_ask, a_message, a_report, a_refusal, asks, turning, Turns, tells_cj_lem, is_placed, turned_as}
use Rattle.listening.specs.declared.Listener.{Listener}
use Rattle.listening.specs.Hearing.{Told, silence, HearOutcome, changed, told, told_alone, acted, heard_bit, silent}
use Rattle.listening.specs.Record.{in_range, fresh}
use Rattle.listening.proofs.Acts.{changed_not, heard_not_a_bit}
use Rattle.listening.proofs.Ranges.{heard_inside, heard_range}
use Rattle.listening.proofs.Many.{told_quiet}
use Rattle.stretches.specs.Stretch.{Ends}
use Rattle.stretches.specs.Hearing.{noted, once_heard, reports}
use Rattle.stretches.specs.Heard.{Brings, PassedOver, Unsynced}
use Rattle.stretches.proofs.Each.{none, more as also, each_append, Bits}
use Rattle.stretches.proofs.Heard.{heard_turned}
use Rattle.stretches.proofs.Led.{one_further, sync_length}
use Rattle.stretches.proofs.Endings.{same_ends}
use Rattle.stretches.proofs.Next.{sync_opens, inside_sync_lem, sync_passed}

-- one bit more
once_more : (sofar : List ℕ) (rec : Listener) (bit : ℕ) → once_heard rec (sofar ++ bit ∷ []) ≡ (heard_bit (once_heard rec sofar) bit).rec
unfolding once_heard
once_more [] rec bit = refl
once_more (first ∷ sofar) rec bit = once_more sofar (heard_bit rec first).rec bit

-- what comes behind a bit that tells nothing and changes no message
pass_more : (sofar : List ℕ) (bit to : ℕ) (later : List ℕ) → Brings (once_heard fresh sofar) bit silence to (once_heard fresh sofar).msg (once_heard fresh sofar).last → PassedOver (once_heard fresh (sofar ++ bit ∷ [])) later
    → PassedOver (once_heard fresh sofar) (bit ∷ later)
unfolding once_heard reports
pass_more sofar bit to later brought passed =
    let rec = once_heard fresh sofar in
    let behind = rw (once_more sofar fresh bit) at passed in
    record {
      silent = ap (λ (t : Told). noted t (heard_bit rec bit).rec.msg (reports (heard_bit rec bit).rec later)) brought.told ∙ behind.silent;
      hunting' = behind.hunting';
      msg = behind.msg ∙ brought.msg;
      last = behind.last ∙ brought.last;
    }

pass_none : (sofar : List ℕ) → (once_heard fresh sofar).ear.place ≡ hunting → PassedOver (once_heard fresh sofar) []
unfolding once_heard reports
pass_none sofar here = record { silent = refl; hunting' = here; msg = refl; last = refl }

-- the rest of a sync of no kind of ours
pass_rest : (rest u sofar : List ℕ) → Bits sofar → Ends (0 ∷ u) sofar → (once_heard fresh sofar).ear.place ≡ suc (length u) → length u + length rest ≡ last_of_sync → 0 < length rest → Bits rest
    → ((kind : Kind) → 0 ∷ (u ++ rest) ≡ sync kind → ⊥) → PassedOver (once_heard fresh sofar) rest
pass_rest [] u sofar bits-sofar stands here size some lows other = absurd (omega arith)
pass_rest (bit ∷ []) u sofar bits-sofar stands here size some (also low none) other =
    let ten : length (0 ∷ (u ++ bit ∷ [])) ≡ 10 = omega (arith, length-append u (bit ∷ []), size) in
    let unlike : (kind : Kind) → Ends (sync kind) (sofar ++ bit ∷ []) → ⊥ = λ kind e. other kind (same_ends (sync kind) (0 ∷ (u ++ bit ∷ [])) (sofar ++ bit ∷ []) (ten ∙ sym (sync_length kind)) e (one_further bit sofar (0 ∷ u) stands)) in
    let brought = sync_passed sofar bits-sofar bit low (omega (arith, here, size)) unlike in
    pass_more sofar bit hunting [] brought (pass_none (sofar ++ bit ∷ []) (rw (once_more sofar fresh bit) brought.place))
pass_rest (bit ∷ next ∷ rest) u sofar bits-sofar stands here size some (also low lows) other =
    let brought = inside_sync_lem sofar bits-sofar bit low (omega (arith, here)) (omega (arith, here, size)) in
    let longer = length-append u (bit ∷ []) in
    pass_more sofar bit _ (next ∷ rest) brought
    (pass_rest (next ∷ rest) (u ++ bit ∷ []) (sofar ++ bit ∷ []) (each_append bits-sofar (also low none)) (one_further bit sofar (0 ∷ u) stands) (ap (λ (rec : Listener). rec.ear.place) (once_more sofar fresh bit) ∙ brought.place ∙ omega (arith, here, longer))
    (omega (arith, size, longer)) (omega arith) lows (rw append_assoc other))

-- "Any other sync is passed over and hunting resumes."
pub other_sync : (sofar : List ℕ) → Bits sofar → (once_heard fresh sofar).ear.place ≡ hunting → Ends ten_ones sofar → (later : List ℕ) → Bits later → length later ≡ last_of_sync → ((kind : Kind) → 0 ∷ later ≡ sync kind → ⊥)
    → PassedOver (once_heard fresh sofar) (0 ∷ later)
other_sync sofar bits-sofar here ones later lows nine other =
    let brought = sync_opens sofar bits-sofar here ones in
    pass_more sofar 0 in_sync later brought
    (pass_rest later [] (sofar ++ 0 ∷ []) (each_append bits-sofar (also (lit< tt) none)) (sofar, refl) (ap (λ (rec : Listener). rec.ear.place) (once_more sofar fresh 0) ∙ brought.place) (omega (arith, nine)) (omega (arith, nine)) lows other)

-- a byte before the boundary that does not bring it keeps the message
record Stays (rec : Listener) (o : HearOutcome) : Type 0 where
  pub msg : o.rec.msg ≡ rec.msg
  pub place : o.rec.ear.place ≤ last_of_sync

module _ (rec : Listener) (bit : ℕ) (early : rec.ear.place ≤ last_of_sync) where
  by_ask : {to act : ℕ} → Asks rec.ear.place bit to act → (to ≡ boundary → ⊥) → Stays rec (acted rec (turning rec.ear bit to act))
  unfolding acted
  by_ask (no_ask before-boundary is) unsynced = record { msg = changed_not rec.msg _ _ (λ e. omega (arith, is, e)) (λ e. omega (arith, is, e)) (λ e. omega (arith, is, e)); place = before-boundary early }
  by_ask (a_message at some few) unsynced = absurd (unsynced at)
  by_ask (a_report late one at is) unsynced = absurd (omega arith)
  by_ask (a_refusal late at high) unsynced = absurd (omega arith)

  by_turn : {to act : ℕ} → Turns rec.ear rec.msg.len bit to act → (to ≡ boundary → ⊥) → Stays rec (acted rec (turning rec.ear bit to act))
  unfolding acted changed when
  by_turn (tells_cj_lem e) unsynced = record { msg = refl; place = omega arith }
  by_turn (is_placed e p) unsynced = by_ask (asks p) unsynced

  byte_stays : in_range rec ≡ true → (no_bit : Bool) → ltb 1 bit ≡ no_bit → ((heard_bit rec bit).rec.ear.place ≡ boundary → ⊥) → Stays rec (heard_bit rec bit)
  unfolding acted
  byte_stays range true e unsynced = rw (heard_inside rec bit range ∙ heard_not_a_bit rec bit (ltb-true 1 bit e)) (record { msg = refl; place = early })
  byte_stays range false e unsynced = let is = heard_turned rec bit range (omega (arith, ltb-false 1 bit e)) in rw is (by_turn (turned_as rec.ear rec.msg.len bit).by (rw is at unsynced))

-- "Stored octets stay readable until the next accepted sync."
pub stays_readable : (bytes : List ℕ) (rec : Listener) → in_range rec ≡ true → rec.ear.place ≤ last_of_sync → Unsynced rec bytes → (once_heard rec bytes).msg ≡ rec.msg
unfolding once_heard Unsynced
stays_readable [] rec range early unsynced = refl
stays_readable (bit ∷ bytes) rec range early unsynced =
    let stays = byte_stays rec bit early range (ltb 1 bit) refl unsynced.0 in
    stays_readable bytes (heard_bit rec bit).rec (heard_range rec bit range) stays.place unsynced.1 ∙ stays.msg

-- behind a report, CJ or a refusal of a bit the place is before the boundary
module _ (rec : Listener) (bit : ℕ) where
  told_ask : {to act : ℕ} → Asks rec.ear.place bit to act → silent (told act rec.msg rec.last) ≡ false → to ≤ in_sync
  unfolding told told_alone when
  told_ask (no_ask before-boundary is) loud = clash (sym (ap silent (ap (λ (act : ℕ). told act rec.msg rec.last) is)) ∙ loud)
  told_ask {act = act} (a_message at some few) loud = clash (sym (ap silent (told_quiet act rec.msg rec.last few)) ∙ loud)
  told_ask (a_report late one at is) loud = omega (arith, at)
  told_ask (a_refusal late at high) loud = at

  told_turn : {to act : ℕ} → Turns rec.ear rec.msg.len bit to act → silent (told act rec.msg rec.last) ≡ false → to ≤ in_sync
  told_turn (tells_cj_lem e) loud = omega arith
  told_turn (is_placed e p) loud = told_ask (asks p) loud

  pub told_early : in_range rec ≡ true → bit < 2 → silent (heard_bit rec bit).report ≡ false → (heard_bit rec bit).rec.ear.place ≤ in_sync
  unfolding acted
  told_early range low loud = let is = heard_turned rec bit range low in rw is (told_turn (turned_as rec.ear rec.msg.len bit).by (rw is at loud))
