-- The names are words that name what they should: computed over the table. A name is read as what it names.
-- Assumes nothing.
use Rattle.std.proofs.Common.{◌≡◌, ℕ, suc, ◌<◌, Bool, true, false, T, eqb, ltb, List, ◌∷◌, Option, Some, None, length, drop, sym, refl, ap, subst, ap₂, append-nil, eqb→eq, ltb→lt}
use Rattle.laws.specs.Logic.{when, both, either}
use Rattle.laws.specs.Tests.{every, all_below, same_list}
use Rattle.laws.proofs.Computed.{below, both_left, both_right, same_list_lem}
use Rattle.items.specs.Items.{in_set}
use Rattle.names.specs.declared.Meaning.{Meaning}
use Rattle.names.specs.Bytes.{bytes}
use Rattle.names.specs.Names.{Entry, names, named, named_by, names_of, function}
use Rattle.plans.specs.declared.Plan.{Plan}
use Rattle.plans.specs.declared.Reading.{Reading}
use Rattle.plans.specs.Reading.{at_bits, at_octets, at_number, name_word, read_word}
use Rattle.plans.specs.Plain.{function_name}
use Rattle.plans.proofs.Runs.{spelled, holds, Found, Run, word_run}

abbrev pub meaning : ℕ → ℕ → Meaning
meaning kind number = record { kind = kind; number = number }

-- a word that names this
pub record Known (word : List ℕ) (kind number : ℕ) : Type 0 where
  pub some : 0 < length word
  pub whole : spelled word ≡ true
  pub meant : named word ≡ Some (meaning kind number)

abbrev is_meant : Option Meaning → ℕ → ℕ → Bool
is_meant (Some m) kind number = both (eqb m.kind kind) (eqb m.number number)
is_meant None kind number = false

meant_lem : (m : Option Meaning) (kind number : ℕ) → T (is_meant m kind number) → m ≡ Some (meaning kind number)
meant_lem (Some m) kind number t = ap Some (ap₂ meaning (eqb→eq m.kind kind (both_left (eqb m.kind kind) _ t)) (eqb→eq m.number number (both_right (eqb m.kind kind) _ t)))
meant_lem None kind number t = absurd t

abbrev pub is_known : List ℕ → ℕ → ℕ → Bool
is_known word kind number = both (ltb 0 (length word)) (both (spelled word) (is_meant (named word) kind number))

pub known : (word : List ℕ) (kind number : ℕ) → T (is_known word kind number) → Known word kind number
known word kind number t =
    let others = both_right (ltb 0 (length word)) _ t in
    record {
      some = ltb→lt 0 (length word) (both_left (ltb 0 (length word)) _ t);
      whole = holds (spelled word) (both_left (spelled word) _ others);
      meant = meant_lem (named word) kind number (both_right (spelled word) _ others);
    }

-- every name of the table
abbrev pub is_entry : Entry → Bool
is_entry e = is_known e.name e.kind e.number

pub known_entry : (e : Entry) → is_entry e ≡ true → Known e.name e.kind e.number
known_entry e is-entry = known e.name e.kind e.number (subst T (sym is-entry) tt)

pub names_known : every is_entry names ≡ true
unfolding names bytes every named_by same_list when both either
names_known = refl

-- the name of a function stands behind a blank
abbrev is_function : ℕ → Bool
is_function f = both (same_list (function_name f) (32 ∷ drop 1 (function_name f))) (is_known (drop 1 (function_name f)) function f)

pub function_known : (n : ℕ) → n < 6 → (word : List ℕ) × (function_name (suc n) ≡ 32 ∷ word) × Known word function (suc n)
unfolding names bytes every named_by same_list when both either all_below names_of in_set
function_known n h =
    let word = drop 1 (function_name (suc n)) in
    let t = below (λ (k : ℕ). is_function (suc k)) 6 tt n h in
    (word, same_list_lem _ _ (both_left (same_list (function_name (suc n)) (32 ∷ word)) _ t), known word function (suc n) (both_right (same_list (function_name (suc n)) (32 ∷ word)) _ t))

-- what a reading knows of its line: the end that it is about, the last function that it names, and the first
pub record Line : Type 0 where
  pub end : ℕ
  pub function : ℕ
  pub first : ℕ

abbrev pub line_of : ℕ → ℕ → ℕ → Line
line_of end function first = record { end = end; function = function; first = first }

abbrev pub no_line : ℕ → Line
no_line end = line_of end 0 0

abbrev pub reading : Plan → Line → ℕ → Reading
reading plan line context = record { plan = plan; end = line.end; function = line.function; first = line.first; context = context; what = None }

-- a name is read
module _ (r r' : Reading) (d : Found) (word : List ℕ) (kind number : ℕ) where
  pub name_run :
      Known word kind number → at_number r ≡ false → at_bits r ≡ false → at_octets r ≡ false → name_word r (meaning kind number) ≡ r' → r'.what ≡ None
      → Run r d word r' d
  unfolding read_word when both
  name_run names_it no_number no_bits no_octets is_read is_right =
      word_run r r' d d word names_it.some names_it.whole (simp (no_number, no_octets, names_it.meant) is_read) is_right (simp no_bits) (simp (no_octets, append-nil)) refl
