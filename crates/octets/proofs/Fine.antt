-- What the kind of an octet says of its fault: an extension octet has none, a category octet that of its tag; and so when a list is accepted.
-- Assumes nothing.
use Prim.Native.Nat.{ℕ, ◌≤◌}
use mathlib.Core.Path.{◌≡◌, refl, sym, ap, ◌∙◌}
use mathlib.Core.Bool.{Bool, true, false}
use mathlib.Core.List.{List, [], ◌∷◌}
use borrow.Author.Tests.{eqb-true, eq-eqb, le-ltb}
use lib.Dec.{eqb}
use lib.ListN.{length}
use Rattle.laws.specs.Logic.{when, both, either}
use Rattle.laws.specs.Tests.{every}
use Rattle.laws.proofs.Logic.{both_true}
use Rattle.octets.specs.declared.Purpose.{Purpose}
use Rattle.octets.specs.declared.Purpose.TheVariants.{Reading}
use Rattle.octets.specs.Octets.{b3, b4, b5, category, tag, extension, bad}
use Rattle.refusals.specs.Refusals.{before}
use Rattle.octets.specs.Lists.{category_fault, octet_fault, first_fault, list_fault}

-- in reading an octet that is not bad has none
no_tag_fault : (t : Bool) → ◌≡◌ {A = ℕ} (when t 0 0) 0
unfolding when
no_tag_fault true = refl
no_tag_fault false = refl

pub reading_fine : (b : ℕ) → bad b ≡ false → octet_fault Reading b ≡ 0
unfolding when
reading_fine b fine = simp fine (no_tag_fault (category b))

module _ (p : Purpose) where
  extension_fine : (b : ℕ) → extension b ≡ true → octet_fault p b ≡ 0
  unfolding when both either
  extension_fine b h =
      let first = both_true _ _ h in
      let rest = both_true _ _ first.1 in
      let one : b4 b ≡ 1 = eqb-true _ _ first.0 in
      let low : b3 b ≡ 0 = eqb-true _ _ rest.0 in
      let high : b5 b ≡ 0 = eqb-true _ _ rest.1 in
      simp (one, low, high)

  pub extensions_fine : (e : List ℕ) → every extension e ≡ true → first_fault p e ≡ 0
  unfolding first_fault every when
  extensions_fine [] h = refl
  extensions_fine (b ∷ e) h = let here = both_true _ _ h in simp (extension_fine b here.0, extensions_fine e here.1)

  category_fine : (b : ℕ) → category b ≡ true → octet_fault p b ≡ category_fault p (tag b)
  unfolding when both
  category_fine b c = let none : b4 b ≡ 0 = eqb-true _ _ c in simp none

  nothing_behind : (f : ℕ) (t : Bool) → eqb f 0 ≡ t → when t 0 f ≡ f
  unfolding when
  nothing_behind f true e = sym (eqb-true f 0 e)
  nothing_behind f false e = refl

  -- a group is at fault where its tag is
  pub group_fine : (b : ℕ) (e : List ℕ) → category b ≡ true → every extension e ≡ true → first_fault p (b ∷ e) ≡ category_fault p (tag b)
  unfolding first_fault
  group_fine b e c h =
      ap (λ (n : ℕ). before (octet_fault p b) n) (extensions_fine e h) ∙ nothing_behind (octet_fault p b) (eqb (octet_fault p b) 0) refl ∙ category_fine b c

  -- a list is accepted where it is short, opens with the call function, and nothing behind that is at fault
  pub accepted_by : (b : ℕ) (bs : List ℕ) → length (b ∷ bs) ≤ 64 → category b ≡ true → tag b ≡ 1 → first_fault p bs ≡ 0 → list_fault p (b ∷ bs) ≡ 0
  unfolding when both
  accepted_by b bs short c t f = simp (le-ltb 64 (length (b ∷ bs)) short, c, eq-eqb (tag b) 1 t, f)
