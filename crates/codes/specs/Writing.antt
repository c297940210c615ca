-- What is written, as the numbers that cross to C.
use Rattle.std.specs.Prelude.{Option, Some, None, ℕ, ◌%◌, ◌^◌, List, eqb, ℤ, pos, neg_ℤ}
use Rattle.laws.specs.Logic.{when}
use Rattle.octets.specs.declared.Kind.TheVariants.{Ci, Menu}
use Rattle.refusals.specs.Lent.{Said, count, refusal, WriteOutcome}
use Rattle.sequences.specs.Writing.{written}
use Rattle.octets.specs.declared.Kind.{Kind}

-- how many were written, or a refusal n as -n
abbrev pub write_code : Said → ℤ
write_code (count n) = pos n
write_code (refusal n) = neg_ℤ (pos n)

-- as far as an i32 holds it
abbrev pub cut_said : Said → Said
cut_said (count n) = count (n % 2 ^ 31)
cut_said (refusal n) = refusal n

-- kind 1 is CI and kind 2 a menu
abbrev pub kind_of : ℕ → Option Kind
kind_of kind = when (eqb kind 1) (Some Ci) (when (eqb kind 2) (Some Menu) None)

-- any other number is outside its range: 10, before all else
abbrev pub written_as : Option Kind → List ℕ → ℕ → List ℕ → WriteOutcome
written_as (Some kind) octets n out = written kind octets n out
written_as None octets n out = record { answer = refusal 10; buffer = out }
