-- What a word can name: numbers in the range of their kind, computed over the names.
-- Assumes nothing.
use Rattle.std.proofs.Common.{◌≡◌, ℕ, ◌≤◌, Bool, true, false, eqb, leb, List, [], ◌∷◌, Option, Some, None, refl, subst, leb-true}
use Rattle.std.specs.Bool.{⊤}
use Rattle.laws.specs.Logic.{when, both}
use Rattle.laws.specs.Tests.{every}
use Rattle.laws.proofs.Logic.{either_way, both_true}
use Rattle.names.specs.declared.Meaning.{Meaning}
use Rattle.names.specs.Bytes.{bytes}
use Rattle.plans.specs.Reading.{octets_behind}
use Rattle.names.specs.Names.{Entry, names, same_letters, meaning_of, named_by, named, end, line, function, part, wanted, quality}

-- what holds of each name holds of what a word names
abbrev Holds : (Meaning → Bool) → Option Meaning → Type 0
Holds P (Some m) = P m ≡ true
Holds P None = ⊤

each_named : (P : Meaning → Bool) (es : List Entry) (word : List ℕ) → every (λ (e : Entry). P (meaning_of e)) es ≡ true → Holds P (named_by es word)
unfolding named_by every
each_named P [] word all = tt
each_named P (e ∷ es) word all =
    let these = both_true (P (meaning_of e)) (every (λ (e : Entry). P (meaning_of e)) es) all in
    either_way (Holds P) (same_letters word e.name) (Some (meaning_of e)) (named_by es word) (λ _. these.0) (λ _. each_named P es word these.1)

-- a number of the kind is in the range
abbrev within : ℕ → ℕ → ℕ → Meaning → Bool
within kind low high m = when (eqb m.kind kind) (both (leb low m.number) (leb m.number high)) true

abbrev Range : ℕ → ℕ → ℕ → Meaning → Type 0
Range kind low high m = eqb m.kind kind ≡ true → (low ≤ m.number) × (m.number ≤ high)

in_range_lem : (kind low high : ℕ) (m : Meaning) → within kind low high m ≡ true → Range kind low high m
unfolding when
in_range_lem kind low high m is_Within is-kind =
    let these = both_true (leb low m.number) (leb m.number high) (rw is-kind at is_Within) in
    (leb-true low m.number these.0, leb-true m.number high these.1)

pub record Meant (m : Meaning) : Type 0 where
  pub ends : Range end 1 2 m
  pub lines : Range line 5 10 m
  pub functions : Range function 1 6 m
  pub parts : eqb m.number octets_behind ≡ false → Range part 3 4 m
  pub wants : Range wanted 0 3 m
  pub qualities : Range quality 0 3 m

pub meant : (word : List ℕ) (m : Meaning) → named word ≡ Some m → Meant m
unfolding names bytes every both when
meant word m is_named = record {
  ends = in_range_lem end 1 2 m (each (within end 1 2) refl);
  lines = in_range_lem line 5 10 m (each (within line 5 10) refl);
  functions = in_range_lem function 1 6 m (each (within function 1 6) refl);
  parts = λ others. in_range_lem part 3 4 m (rw others at (each (λ (n : Meaning). when (eqb n.number octets_behind) true (within part 3 4 n)) refl));
  wants = in_range_lem wanted 0 3 m (each (within wanted 0 3) refl);
  qualities = in_range_lem quality 0 3 m (each (within quality 0 3) refl);
}
  where
    each : (P : Meaning → Bool) → every (λ (e : Entry). P (meaning_of e)) names ≡ true → P m ≡ true
    each P all = subst (Holds P) is_named (each_named P names word all)
