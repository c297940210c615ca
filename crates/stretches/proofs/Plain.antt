-- A reader of bits in which CJ stands nowhere: its reports, but for which menus are agreed, are those of a reader that does not listen for CJ. Invariant: `Since`, its past
-- holds the bits so far, so where the test for CJ holds they end in CJ.
-- Assumes nothing.
use Prim.Native.Nat.{ℕ, ◌<◌, ◌≤◌, ◌+◌, ◌/◌}
use native.Mathlib.Omega.{arith}
use mathlib.Core.Path.{◌≡◌, refl, sym, ap, subst, ◌∙◌}
use mathlib.Core.Bool.{Bool, true, false}
use mathlib.Core.List.{List, [], ◌∷◌, ◌++◌, append_assoc}
use borrow.Author.Tests.{le-ltb, eqb-true}
use lib.Dec.{ltb, lit≤}
use lib.ListN.{length, length-append}
use Rattle.laws.specs.Logic.{when}
use Rattle.laws.proofs.Logic.{either_way, both_true}
use Rattle.sequences.specs.Line.{cj as cjBits}
use Rattle.listening.specs.declared.Message.{Message}
use Rattle.listening.specs.declared.Listener.{Listener}
use Rattle.framing.specs.Framing.{pushed, more, is_cj, placed, turned_to, turned}
use Rattle.listening.specs.Hearing as telling
use Rattle.listening.specs.Hearing.{Told, silence, ci, menu, HearOutcome, acted, heard_in, heard_bit}
use Rattle.listening.specs.Record.{in_range, fresh}
use Rattle.framing.proofs.Words.{hearing}
use Rattle.listening.proofs.Ranges.{fits_range, fresh_fits, heard_range, heard_inside}
use Rattle.stretches.specs.Stretch.{Nowhere}
use Rattle.stretches.specs.Hearing.{Report, message, cj, refusal, noted, reports}
use Rattle.stretches.proofs.Each.{none, more as also, each_append, Bits}
use Rattle.stretches.proofs.Past.{hearing_append, cj_heard}

-- a bit, with no test for CJ
abbrev pub plainly : Listener → ℕ → HearOutcome
plainly rec bit =
    let past = pushed rec.ear.past bit in
    acted rec (turned_to past (more rec.ear.heard) (placed rec.ear.place rec.ear.past past rec.msg.len bit))

-- reports of which none says that its menu is agreed
abbrev unflagged : Told → Told
unflagged silence = silence
unflagged (ci span) = ci span
unflagged (menu agreed span) = menu false span
unflagged telling.cj = telling.cj
unflagged (telling.refusal n) = telling.refusal n

unfoldable pub bare : List Report → List Report
bare [] = []
bare (message kind octets flag span ∷ later) = message kind octets false span ∷ bare later
bare (cj ∷ later) = cj ∷ bare later
bare (refusal n ∷ later) = refusal n ∷ bare later

bare_noted : (told : Told) (m : Message) (later : List Report) → bare (noted told m later) ≡ noted (unflagged told) m (bare later)
unfolding bare
bare_noted silence m later = refl
bare_noted (ci span) m later = refl
bare_noted (menu agreed span) m later = refl
bare_noted telling.cj m later = refl
bare_noted (telling.refusal n) m later = refl

-- such reports on bits, and the record behind them
unfoldable pub plain : Listener → List ℕ → List Report
plain rec [] = []
plain rec (bit ∷ bits) = noted (unflagged (plainly rec bit).report) (plainly rec bit).rec.msg (plain (plainly rec bit).rec bits)

unfoldable pub after : Listener → List ℕ → Listener
after rec [] = rec
after rec (bit ∷ bits) = after (plainly rec bit).rec bits

noted_append : (told : Told) (m : Message) (a b : List Report) → noted told m (a ++ b) ≡ noted told m a ++ b
noted_append silence m a b = refl
noted_append (ci span) m a b = refl
noted_append (menu agreed span) m a b = refl
noted_append telling.cj m a b = refl
noted_append (telling.refusal n) m a b = refl

pub plain_append : (rec : Listener) (a b : List ℕ) → plain rec (a ++ b) ≡ plain rec a ++ plain (after rec a) b
unfolding plain after
plain_append rec [] b = refl
plain_append rec (bit ∷ a) b =
    ap (noted (unflagged (plainly rec bit).report) (plainly rec bit).rec.msg) (plain_append (plainly rec bit).rec a b)
    ∙ noted_append (unflagged (plainly rec bit).report) (plainly rec bit).rec.msg (plain (plainly rec bit).rec a) (plain (after (plainly rec bit).rec a) b)

pub after_append : (rec : Listener) (a b : List ℕ) → after rec (a ++ b) ≡ after (after rec a) b
unfolding after
after_append rec [] b = refl
after_append rec (bit ∷ a) b = after_append (plainly rec bit).rec a b

-- what a reader has heard since it was fresh
pub record Since (sofar : List ℕ) (rec : Listener) : Type 0 where
  pub range : in_range rec ≡ true
  pub past : rec.ear.past ≡ hearing 0 sofar
  pub count : rec.ear.heard ≤ length sofar

more_one : (n : ℕ) → more n ≤ n + 1
unfolding more
more_one n = either_way (λ (k : ℕ). k ≤ n + 1) (ltb n 30) (n + 1) n (λ _. omega arith) (λ _. omega arith)

module _ (sofar : List ℕ) (rec : Listener) (since : Since sofar rec) (bits-sofar : Bits sofar) (bit : ℕ) (low : bit < 2) (bits : List ℕ) (never : Nowhere cjBits (sofar ++ bit ∷ bits)) where
  longer : length (sofar ++ bit ∷ []) ≡ length sofar + 1
  longer = length-append sofar (bit ∷ [])

  past_on : pushed rec.ear.past bit ≡ hearing 0 (sofar ++ bit ∷ [])
  past_on = ap (λ (p : ℕ). pushed p bit) since.past ∙ sym (hearing_append 0 sofar (bit ∷ []))

  is_cj_lem : is_cj (pushed rec.ear.past bit) (more rec.ear.heard) ≡ true → ⊥
  unfolding is_cj
  is_cj_lem e =
      let tests = both_true _ _ e in
      let thirty : more rec.ear.heard ≡ 30 = eqb-true _ _ tests.1 in
      let ended = cj_heard (sofar ++ bit ∷ []) (each_append bits-sofar (also low none)) (omega (arith, more_one rec.ear.heard, longer)) (ap (λ (p : ℕ). p / 4) (sym past_on) ∙ eqb-true _ _ tests.0) in
      never ended.0 bits (ap (λ (l : List ℕ). l ++ bits) ended.1 ∙ append_assoc sofar (bit ∷ []) bits)

  no_cj : is_cj (pushed rec.ear.past bit) (more rec.ear.heard) ≡ false
  no_cj = by_test (is_cj (pushed rec.ear.past bit) (more rec.ear.heard)) refl
    where
      by_test : (t : Bool) → is_cj (pushed rec.ear.past bit) (more rec.ear.heard) ≡ t → t ≡ false
      by_test true e = absurd (is_cj_lem e)
      by_test false e = refl

  heard_plainly : heard_bit rec bit ≡ plainly rec bit
  unfolding heard_in turned when
  heard_plainly = heard_inside rec bit since.range ∙ simp (le-ltb 1 bit (omega arith), no_cj)

  since_on : Since (sofar ++ bit ∷ []) (plainly rec bit).rec
  unfolding acted
  since_on = record {
    range = subst (λ (o : HearOutcome). in_range o.rec ≡ true) heard_plainly (heard_range rec bit since.range);
    past = past_on;
    count = omega (arith, more_one rec.ear.heard, longer);
  }

reports_plain : (bits sofar : List ℕ) (rec : Listener) → Since sofar rec → Bits sofar → Bits bits → Nowhere cjBits (sofar ++ bits) → bare (reports rec bits) ≡ plain rec bits
unfolding reports plain bare
reports_plain [] sofar rec since bits-sofar none never = refl
reports_plain (bit ∷ bits) sofar rec since bits-sofar (also low lows) never =
    bare_noted (heard_bit rec bit).report (heard_bit rec bit).rec.msg (reports (heard_bit rec bit).rec bits)
    ∙ ap (λ (o : HearOutcome). noted (unflagged o.report) o.rec.msg (bare (reports o.rec bits))) (heard_plainly sofar rec since bits-sofar bit low bits never)
    ∙ ap (noted (unflagged (plainly rec bit).report) (plainly rec bit).rec.msg)
    (reports_plain bits (sofar ++ bit ∷ []) (plainly rec bit).rec (since_on sofar rec since bits-sofar bit low bits never) (each_append bits-sofar (also low none)) lows (rw append_assoc never))

pub fresh_plain : (bits : List ℕ) → Bits bits → Nowhere cjBits bits → bare (reports fresh bits) ≡ plain fresh bits
fresh_plain bits lows never = reports_plain bits [] fresh (record { range = fits_range fresh fresh_fits; past = refl; count = lit≤ tt }) none lows never
