-- The table of the code holds the names of the definition; and laws about the names, one at a time.
-- Assumes nothing.
use Rattle.std.proofs.Common.{ℕ, ◌≡◌, ◌+◌, ◌<◌, ◌≤◌, List, [], ◌∷◌, ◌++◌, length, drop, get_or, Bool, true, false, refl, sym, ap, add-one, eqb, ◌∙◌}
use Rattle.std.specs.Prelude.{Some, None}
use lib.ListN.{drop_of_length-le}
use lib.Seq.{drop-cons}
use Rattle.laws.specs.Logic.{when, both}
use Rattle.items.specs.Items.{in_set}
use Rattle.printing.specs.Page.{Page, typed}
use Rattle.printing.proofs.Pages.{typed_joined}
use Rattle.names.specs.declared.TheConstants.{NAMES}
use Rattle.names.specs.Bytes.{bytes}
use Rattle.names.specs.Names.{Entry, names, same_letters, meaning_of, named_by, name_of, names_of}
use Rattle.names.specs.Inner.{entry_of, entries, shown}

pub table : entries (λ w. w.now) NAMES ≡ names
unfolding names bytes
table = refl

-- what is written of a name is chosen by both tests at once
name_by : (a b : Bool) (text : List ℕ) → when a (when b text []) [] ≡ when (both a b) text []
unfolding when both
name_by true b text = refl
name_by false b text = refl

module _ {Text : Type 0} (bytes_of : Text → List ℕ) (rows : List (Text × ℕ × ℕ)) (i : ℕ) where
  abbrev rest : ℕ → List Entry
  rest k = entries bytes_of (drop k rows)

  module _ (there : i < length rows) (d : Text × ℕ × ℕ) where
    abbrev here : Entry
    here = entry_of bytes_of (get_or rows i d)

    first : rest i ≡ here ∷ rest (i + 1)
    first = ap (entries bytes_of) (drop-cons rows i d there) ∙ ap (λ (k : ℕ). here ∷ rest k) (sym (add-one i))

    pub named_here : (word : List ℕ) → same_letters word here.name ≡ true → named_by (rest i) word ≡ Some (meaning_of here)
    unfolding named_by when
    named_here word is_name = simp (first, is_name)

    pub named_on : (word : List ℕ) → same_letters word here.name ≡ false → named_by (rest i) word ≡ named_by (rest (i + 1)) word
    unfolding named_by when
    named_on word is_none = simp (first, is_none)

    module _ (p : Page) (kind set : ℕ) where
      written : name_of kind set here ≡ when (shown here.kind here.number kind set) (32 ∷ here.name) []
      written = name_by (eqb here.kind kind) (in_set set here.number) (32 ∷ here.name)

      name_on : (text : List ℕ) → name_of kind set here ≡ text → typed p (names_of kind set (rest i)) ≡ typed (typed p text) (names_of kind set (rest (i + 1)))
      unfolding names_of
      name_on text is_text =
          ap (λ (es : List Entry). typed p (names_of kind set es)) first
          ∙ ap (λ (name : List ℕ). typed p (name ++ names_of kind set (rest (i + 1)))) is_text
          ∙ typed_joined p text (names_of kind set (rest (i + 1)))

      pub shown_on : shown here.kind here.number kind set ≡ true → typed p (names_of kind set (rest i)) ≡ typed (typed p (32 ∷ here.name)) (names_of kind set (rest (i + 1)))
      unfolding when
      shown_on is_shown = name_on (32 ∷ here.name) (written ∙ simp is_shown)

      pub left_out : shown here.kind here.number kind set ≡ false → typed p (names_of kind set (rest i)) ≡ typed p (names_of kind set (rest (i + 1)))
      unfolding when typed
      left_out is_none = name_on [] (written ∙ simp is_none)

  module _ (past : length rows ≤ i) where
    none_left : rest i ≡ []
    none_left = ap (entries bytes_of) (drop_of_length-le rows past)

    pub named_end : (word : List ℕ) → named_by (rest i) word ≡ None
    unfolding named_by
    named_end word = simp none_left

    pub names_end : (p : Page) (kind set : ℕ) → typed p (names_of kind set (rest i)) ≡ p
    unfolding names_of typed
    names_end p kind set = simp none_left
