-- Document 02, Req 04: what is given out of a cadence, and what is left of it at ANSam or ANS.
use Rattle.std.specs.Prelude.{ℕ, ◌+◌, ◌-◌, ◌%◌, ◌≡◌, Bool, List, ltb, leb, eqb, length}
use Rattle.laws.specs.Logic.{when, both, either}
use Rattle.laws.specs.Front.{front}
use Rattle.refusals.specs.Lent.{Said, count, refusal, says_wrote}
use Rattle.cadence.specs.declared.Cadence.{Cadence}
use Rattle.cadence.specs.declared.Given.{Given}
use Rattle.cadence.specs.Cadence.{is_function, is_cadence, on_bits, period, bits_from}

-- docs/RANGES.md: a place within the period, at which so many bits were sent, counted up to 90; the first three sequences stand where
-- the cadence begins
abbrev pub place_fits : ℕ → ℕ → ℕ → Bool
place_fits place sent end = both (ltb place end) (either (eqb sent 90) (both (ltb sent 90) (eqb place sent)))

-- docs/RANGES.md: what a caller's cadence may hold
unfoldable pub cadence_fits : Cadence → Bool
cadence_fits c =
    both (is_function c.function)
    (both (is_cadence c.on c.off)
    (both (leb c.tone 2) (place_fits c.place c.sent (period c.on c.off))))

-- an answerer has none
abbrev pub no_cadence : Cadence
no_cadence = record { off = 0; place = 0; on = 0; function = 0; sent = 0; tone = 0 }

abbrev pub is_none : Cadence → Bool
is_none c = both (eqb c.off 0) (both (eqb c.place 0) (both (eqb c.on 0) (both (eqb c.function 0) (both (eqb c.sent 0) (eqb c.tone 0)))))

-- at the start of a call: nothing was sent, and no tone was heard
abbrev pub begun : ℕ → ℕ → ℕ → Cadence
begun function on off = record { off = off; place = 0; on = on; function = function; sent = 0; tone = 0 }

-- "At ANSam or ANS the sequence being sent is finished, and if fewer than three were sent since the call began, the third is."
unfoldable pub left : Cadence → ℕ
left c = when (ltb c.sent 90) (90 - c.sent) (when (ltb c.place (on_bits c.on)) ((30 - c.place % 30) % 30) 0)

-- a tone that ends the cadence
abbrev pub remembering : Cadence → ℕ → Cadence
remembering c tone = record { off = c.off; place = c.place; on = c.on; function = c.function; sent = c.sent; tone = tone }

-- how many bits come of those that are asked for: all of them, but behind ANSam or ANS what is left
abbrev pub due : Cadence → ℕ → ℕ
due c asked = when (eqb c.tone 0) asked (when (ltb (left c) asked) (left c) asked)

-- the cadence so many bits further on
unfoldable pub moved_on : Cadence → ℕ → Cadence
moved_on c n = record {
  off = c.off;
  place = (c.place + n) % period c.on c.off;
  on = c.on;
  function = c.function;
  sent = when (ltb (c.sent + n) 90) (c.sent + n) 90;
  tone = c.tone;
}

-- what is left where bits were asked for: the answer, the lent buffer and the cadence
pub record GiveOutcome : Type 0 where
  pub answer : Said
  pub buffer : List ℕ
  pub cadence : Cadence

-- so many bits, from the place on that comes next
abbrev pub giving : Cadence → ℕ → List ℕ → GiveOutcome
giving c n out = record { answer = count n; buffer = front (bits_from c.function c.on c.off c.place n) out; cadence = moved_on c n }

-- a cadence outside its range is refused with 10: "Buffers .. keep their values."
unfoldable pub given : Cadence → List ℕ → GiveOutcome
given c out = when (cadence_fits c) (giving c (due c (length out)) out) (record { answer = refusal 10; buffer = out; cadence = c })

-- an answer that is as laid down
pub record Gives (laid : GiveOutcome) (r : Given) (after : List ℕ) : Type 0 where
  pub answer : says_wrote r.answer ≡ laid.answer
  pub buffer : after ≡ laid.buffer
  pub cadence : r.cadence ≡ laid.cadence
