-- What a record that was fresh knows of the bits that it heard since: how many, up to thirty, and the last ones as its past. So CJ is told
-- exactly where the last thirty bits are CJ.
-- Assumes nothing.
use Prim.Native.Nat.{ℕ, ◌<◌, ◌≤◌, ◌+◌, ◌*◌, ◌/◌, ◌^◌}
use native.Mathlib.Omega.{arith}
use mathlib.Core.Path.{◌≡◌, refl, sym, ap, ◌∙◌}
use mathlib.Core.Bool.{Bool, true, false}
use mathlib.Core.List.{List, [], ◌∷◌, ◌++◌, append_assoc, append-nil}
use borrow.Author.Tests.{le-ltb, ltb-true, ltb-false, eqb-true, eq-eqb}
use lib.Dec.{ltb, eqb, lit<}
use lib.ListN.{length, length-append}
use Rattle.laws.specs.Logic.{when, both}
use Rattle.laws.specs.Tests.{every}
use Rattle.laws.proofs.Logic.{either_way, both_true, clash}
use Rattle.sequences.specs.Line.{cj as cjBits}
use Rattle.sequences.proofs.Lines.{cj_length}
use Rattle.framing.specs.Framing.{value, pushed, more, is_cj, report, tell_cj}
use Rattle.framing.proofs.Words.{hearing}
use Rattle.framing.proofs.Places.{Asks, no_ask, a_message, a_report, a_refusal, asks, turning, Turns, tells_cj_lem, is_placed, TurnedAs, turned_as}
use Rattle.leaps.proofs.Spans.{hearing_number}
use Rattle.listening.specs.declared.Listener.{Listener}
use Rattle.listening.specs.declared.Message.{Message}
use Rattle.listening.specs.Hearing.{Told, silence, ci, menu, cj, refusal, HearOutcome, reported, told, told_alone, acted, heard_in, heard_bit}
use Rattle.listening.specs.Record.{in_range, fresh}
use Rattle.listening.proofs.Ranges.{fits_range, fresh_fits, heard_range, heard_inside}
use Rattle.stretches.specs.Stretch.{bits_all, Ends}
use Rattle.stretches.specs.Hearing.{once_heard}
use Rattle.stretches.proofs.Each.{none, more as also, each_append, each_left, Bits}
use Rattle.stretches.proofs.Past.{Small, hearing_small, hearing_append, cj_heard}

-- a computed test says that these are bits
pub are_bits : (bits : List ℕ) → bits_all bits ≡ true → Bits bits
unfolding every
are_bits [] tested = none
are_bits (bit ∷ bits) tested = let tests = both_true _ _ tested in also (ltb-true bit 2 tests.0) (are_bits bits tests.1)

abbrev up_to_30 : ℕ → ℕ
up_to_30 n = when (ltb n 30) n 30

one_more : (n : ℕ) → more (up_to_30 n) ≡ up_to_30 (n + 1)
unfolding more when
one_more n = by_test (ltb n 30) refl
  where
    by_test : (few : Bool) → ltb n 30 ≡ few → when (ltb (when few n 30) 30) (when few n 30 + 1) (when few n 30) ≡ up_to_30 (n + 1)
    by_test true e = either_way (λ (k : ℕ). when (ltb n 30) (n + 1) n ≡ k) (ltb (n + 1) 30) (n + 1) 30 (λ _. simp e) (λ full. simp e (omega (arith, ltb-true n 30 e, ltb-false (n + 1) 30 full)))
    by_test false e = simp (le-ltb (n + 1) 30 (omega (arith, ltb-false n 30 e)))

thirty_heard : (n : ℕ) → up_to_30 n ≡ 30 → 30 ≤ n
unfolding when
thirty_heard n = either_way (λ (k : ℕ). k ≡ 30 → 30 ≤ n) (ltb n 30) n 30 (λ _ e. omega (arith, e)) (λ full e. ltb-false n 30 full)

-- what a record knows of the bits that it heard
pub record Knows (sofar : List ℕ) (rec : Listener) : Type 0 where
  pub range : in_range rec ≡ true
  pub past : rec.ear.past ≡ hearing 0 sofar
  pub count : rec.ear.heard ≡ up_to_30 (length sofar)

module _ (rec : Listener) (bit : ℕ) (range : in_range rec ≡ true) (low : bit < 2) where
  -- a bit turns the ear, and what it asks for is done
  pub heard_turned : heard_bit rec bit ≡ acted rec (turning rec.ear bit (turned_as rec.ear rec.msg.len bit).to (turned_as rec.ear rec.msg.len bit).act)
  unfolding heard_in when
  heard_turned = heard_inside rec bit range ∙ simp (le-ltb 1 bit (omega arith), (turned_as rec.ear rec.msg.len bit).is)

module _ (sofar : List ℕ) (rec : Listener) (knows : Knows sofar rec) (bit : ℕ) (low : bit < 2) where
  pub past_on : pushed rec.ear.past bit ≡ hearing 0 (sofar ++ bit ∷ [])
  past_on = ap (λ (p : ℕ). pushed p bit) knows.past ∙ sym (hearing_append 0 sofar (bit ∷ []))

  pub count_on : more rec.ear.heard ≡ up_to_30 (length (sofar ++ bit ∷ []))
  count_on = ap more knows.count ∙ one_more (length sofar) ∙ ap up_to_30 (sym (length-append sofar (bit ∷ [])))

  pub knows_on : Knows (sofar ++ bit ∷ []) (heard_bit rec bit).rec
  unfolding acted
  knows_on =
      let turned-there = heard_turned rec bit knows.range low in
      record {
        range = heard_range rec bit knows.range;
        past = ap (λ (o : HearOutcome). o.rec.ear.past) turned-there ∙ past_on;
        count = ap (λ (o : HearOutcome). o.rec.ear.heard) turned-there ∙ count_on;
      }

-- what holds of a fresh record and stays with each bit holds of the record once bits are heard
module _ (P : List ℕ → Listener → Type 0) (stays : (sofar : List ℕ) (rec : Listener) → Bits sofar → Knows sofar rec → P sofar rec → (bit : ℕ) → bit < 2 → P (sofar ++ bit ∷ []) (heard_bit rec bit).rec) where
  stays_all : (bits sofar : List ℕ) (rec : Listener) → Bits sofar → Knows sofar rec → P sofar rec → Bits bits → (Knows (sofar ++ bits) (once_heard rec bits)) × P (sofar ++ bits) (once_heard rec bits)
  unfolding once_heard
  stays_all [] sofar rec bits-sofar knows p none = rw append-nil (knows, p)
  stays_all (bit ∷ bits) sofar rec bits-sofar knows p (also low lows) =
      rw (← (append_assoc sofar (bit ∷ []) bits))
      (stays_all bits (sofar ++ bit ∷ []) (heard_bit rec bit).rec (each_append bits-sofar (also low none)) (knows_on sofar rec knows bit low) (stays sofar rec bits-sofar knows p bit low) lows)

fresh_knows : Knows [] fresh
unfolding when
fresh_knows = record { range = fits_range fresh fresh_fits; past = refl; count = refl }

pub since_fresh : (P : List ℕ → Listener → Type 0) → P [] fresh → ((sofar : List ℕ) (rec : Listener) → Bits sofar → Knows sofar rec → P sofar rec → (bit : ℕ) → bit < 2 → P (sofar ++ bit ∷ []) (heard_bit rec bit).rec)
    → (bits : List ℕ) → Bits bits → P bits (once_heard fresh bits)
since_fresh P first stays bits lows = (stays_all P stays bits [] fresh none fresh_knows first lows).1

pub knows_heard : (bits : List ℕ) → Bits bits → Knows bits (once_heard fresh bits)
knows_heard bits lows = (stays_all (λ sofar rec. Unit) (λ sofar rec bits-sofar knows p bit low. tt) bits [] fresh none fresh_knows tt lows).0

-- CJ makes its number whatever was heard before
cj_last : (past : ℕ) → Small past → hearing past cjBits / 4 ≡ value cjBits
cj_last past small =
    let number = hearing_number cjBits past 4 (ap (λ (n : ℕ). 4 * 2 ^ n) cj_length) ∙ ap (λ (n : ℕ). past / 2 ^ n + value cjBits * 4) cj_length in
    omega (arith, number)

abbrev is_cj_told : Told → Bool
is_cj_told silence = false
is_cj_told (ci span) = false
is_cj_told (menu agreed span) = false
is_cj_told cj = true
is_cj_told (refusal n) = false

-- and nothing else tells it
cj_asked : (act : ℕ) (m last : Message) → is_cj_told (told act m last) ≡ true → act ≡ tell_cj
unfolding told told_alone reported
cj_asked act m last =
    let Asked : Told → Type 0 = λ (t : Told). is_cj_told t ≡ true → act ≡ tell_cj in
    either_way Asked (eqb act report) _ _ (λ _. either_way Asked (eqb m.kind 1) (ci _) _ (λ _ e. clash (sym e)) (λ _ e. clash (sym e)))
    (λ _. either_way Asked (ltb act report) silence _ (λ _ e. clash (sym e))
    (λ _. either_way Asked (eqb act tell_cj) cj _ (λ is e. eqb-true act tell_cj is) (λ _ e. clash (sym e))))

module _ (sofar : List ℕ) (rec : Listener) (knows : Knows sofar rec) (bits-sofar : Bits sofar) (bit : ℕ) (low : bit < 2) where
  abbrev tests_cj : Bool
  tests_cj = is_cj (pushed rec.ear.past bit) (more rec.ear.heard)

  whole : Bits (sofar ++ bit ∷ [])
  whole = each_append bits-sofar (also low none)

  -- the test says that the last thirty bits are CJ
  pub ends_is_cj : Ends cjBits (sofar ++ bit ∷ []) → tests_cj ≡ true
  unfolding is_cj both when
  ends_is_cj ends =
      let early : Bits ends.0 = each_left ends.0 cjBits (rw ends.1 whole) in
      let word : hearing 0 (sofar ++ bit ∷ []) / 4 ≡ value cjBits =
      ap (λ (l : List ℕ). hearing 0 l / 4) (sym ends.1) ∙ ap (λ (p : ℕ). p / 4) (hearing_append 0 ends.0 cjBits) ∙ cj_last (hearing 0 ends.0) (hearing_small 0 ends.0 (lit< tt) early) in
      let long : 30 ≤ length (sofar ++ bit ∷ []) = omega (arith, ap length ends.1, length-append ends.0 cjBits, cj_length) in
      simp (past_on sofar rec knows bit low, count_on sofar rec knows bit low, eq-eqb _ _ word, le-ltb (length (sofar ++ bit ∷ [])) 30 long)

  is_cj_ends : tests_cj ≡ true → Ends cjBits (sofar ++ bit ∷ [])
  unfolding is_cj
  is_cj_ends e =
      let tests = both_true _ _ e in
      let thirty : up_to_30 (length (sofar ++ bit ∷ [])) ≡ 30 = sym (count_on sofar rec knows bit low) ∙ eqb-true _ _ tests.1 in
      cj_heard (sofar ++ bit ∷ []) whole (thirty_heard (length (sofar ++ bit ∷ [])) thirty) (ap (λ (p : ℕ). p / 4) (sym (past_on sofar rec knows bit low)) ∙ eqb-true _ _ tests.0)

  pub no_cj_there : (Ends cjBits (sofar ++ bit ∷ []) → ⊥) → tests_cj ≡ false
  no_cj_there never = by_test tests_cj refl
    where
      by_test : (t : Bool) → tests_cj ≡ t → t ≡ false
      by_test true e = absurd (never (is_cj_ends e))
      by_test false e = refl

  by_turn : {to act : ℕ} → Turns rec.ear rec.msg.len bit to act → Ends cjBits (sofar ++ bit ∷ []) → act ≡ tell_cj
  by_turn (tells_cj_lem e) ends = refl
  by_turn (is_placed e p) ends = clash (sym (ends_is_cj ends) ∙ e)

  only_placed : {to act : ℕ} → Asks rec.ear.place bit to act → act ≡ tell_cj → ⊥
  only_placed (no_ask before-boundary asked) is = omega (arith, asked, is)
  only_placed (a_message at some few) is = omega (arith, is)
  only_placed (a_report late one at asked) is = omega (arith, asked, is)
  only_placed (a_refusal late at high) is = omega (arith, is)

  only_turn : {to act : ℕ} → Turns rec.ear rec.msg.len bit to act → act ≡ tell_cj → Ends cjBits (sofar ++ bit ∷ [])
  only_turn (tells_cj_lem e) is = is_cj_ends e
  only_turn (is_placed e p) is = absurd (only_placed (asks p) is)

module _ (sofar : List ℕ) (bits-sofar : Bits sofar) (bit : ℕ) (low : bit < 2) where
  abbrev rec : Listener
  rec = once_heard fresh sofar

  knows : Knows sofar rec
  knows = knows_heard sofar bits-sofar

  abbrev turn : TurnedAs rec.ear rec.msg.len bit
  turn = turned_as rec.ear rec.msg.len bit

  tells : (heard_bit rec bit).report ≡ told turn.act rec.msg rec.last
  unfolding acted
  tells = ap (λ (o : HearOutcome). o.report) (heard_turned rec bit knows.range low)

  pub cj_told : Ends cjBits (sofar ++ bit ∷ []) → (heard_bit (once_heard fresh sofar) bit).report ≡ cj
  unfolding told told_alone when
  cj_told ends = tells ∙ ap (λ (act : ℕ). told act rec.msg rec.last) (by_turn sofar rec knows bits-sofar bit low turn.by ends)

  pub cj_only : (heard_bit (once_heard fresh sofar) bit).report ≡ cj → Ends cjBits (sofar ++ bit ∷ [])
  cj_only e = only_turn sofar rec knows bits-sofar bit low turn.by (cj_asked turn.act rec.msg rec.last (ap is_cj_told (sym tells ∙ e)))
