-- Groups of a message that is put together from parts: the first part that has a group of the tag gives it.
-- Assumes nothing.
use Prim.Native.Nat.{ℕ, suc, ◌+◌, ◌≤◌}
use native.Mathlib.Omega.{arith}
use mathlib.Core.Path.{◌≡◌, refl, sym, ap, ◌∙◌}
use mathlib.Core.Bool.{Bool, true, false}
use mathlib.Core.List.{List, [], ◌∷◌, ◌++◌}
use borrow.Author.Tests.{eqb-true, ne_eqb}
use lib.ListN.{length, take, drop}
use lib.Seq.{drop-drop}
use Rattle.laws.specs.Logic.{when, both}
use Rattle.laws.specs.Tests.{every}
use Rattle.laws.proofs.Logic.{either_way, both_true}
use Rattle.octets.specs.Octets.{b4, category, extension}
use Rattle.octets.specs.Lists.{until_category, group_ends}
use Rattle.octets.proofs.Lists.{group_end}
use Rattle.menus.specs.Groups.{Looked, place, opens_group, first_group, front_part, part_of, group_of}
use Rattle.menus.proofs.Looking.{part_short}

-- the first group of a tag, without its place
unfoldable pub group_from : ℕ → List ℕ → List ℕ
group_from t [] = []
group_from t (b ∷ bs) = when (opens_group t b) (front_part (b ∷ bs)) (group_from t bs)

module _ (whole : List ℕ) where
  chosen_part : (test : Bool) (i : ℕ) (later : Looked) → part_of whole (when test (place i) later) ≡ when test (front_part (drop i whole)) (part_of whole later)
  unfolding when
  chosen_part true i later = refl
  chosen_part false i later = refl

  part_from : (t i : ℕ) (bs : List ℕ) → drop i whole ≡ bs → part_of whole (first_group t i bs) ≡ group_from t bs
  unfolding first_group group_from
  part_from t i [] e = refl
  part_from t i (b ∷ bs) e =
      let later : drop (i + 1) whole ≡ bs = sym (drop-drop 1 i whole) ∙ ap (λ (l : List ℕ). drop 1 l) e in
      chosen_part (opens_group t b) i (first_group t (i + 1) bs) ∙ simp (e, part_from t (i + 1) bs later)

pub group_from_lem : (octets : List ℕ) (t : ℕ) → group_of octets t ≡ group_from t octets
unfolding group_of
group_from_lem octets t = part_from octets t 0 octets refl

-- a group is no longer than the message
from_short : (t : ℕ) (octets : List ℕ) → length (group_from t octets) ≤ length octets
unfolding group_from
from_short t [] = omega arith
from_short t (b ∷ bs) =
    either_way (λ (l : List ℕ). length l ≤ suc (length bs)) (opens_group t b) (front_part (b ∷ bs)) (group_from t bs) (λ _. part_short (b ∷ bs)) (λ _. omega (arith, from_short t bs))

pub group_short : (octets : List ℕ) (t : ℕ) → length (group_of octets t) ≤ length octets
group_short octets t = rw (group_from_lem octets t) (from_short t octets)

-- the first of two groups that stands
abbrev pub or_else : List ℕ → List ℕ → List ℕ
or_else [] later = later
or_else (b ∷ bs) later = b ∷ bs

-- a group ends where the next part begins with a group
stretch_on : (test : Bool) (x m n : ℕ) (u v : List ℕ) → take m u ≡ take n v → take (when test 0 (suc m)) (x ∷ u) ≡ take (when test 0 (suc n)) (x ∷ v)
unfolding when
stretch_on true x m n u v e = refl
stretch_on false x m n u v e = ap (λ (l : List ℕ). x ∷ l) e

stretch_ends : (a b : List ℕ) → group_ends b 0 ≡ true → take (until_category (a ++ b)) (a ++ b) ≡ take (until_category a) a
unfolding until_category
stretch_ends [] b e = simp (group_end b 0 e)
stretch_ends (x ∷ a) b e = stretch_on (category x) x (until_category (a ++ b)) (until_category a) (a ++ b) a (stretch_ends a b e)

module _ (t x : ℕ) (a b : List ℕ) (e : group_ends b 0 ≡ true) (later : group_from t (a ++ b) ≡ or_else (group_from t a) (group_from t b)) where
  joined_by : (test : Bool) → opens_group t x ≡ test
      → when test (front_part (x ∷ (a ++ b))) (group_from t (a ++ b)) ≡ or_else (when test (front_part (x ∷ a)) (group_from t a)) (group_from t b)
  unfolding when front_part
  joined_by true h = simp ((both_true _ _ h).0, stretch_ends a b e)
  joined_by false h = later

pub group_joined : (t : ℕ) (a b : List ℕ) → group_ends b 0 ≡ true → group_from t (a ++ b) ≡ or_else (group_from t a) (group_from t b)
unfolding group_from
group_joined t [] b e = refl
group_joined t (x ∷ a) b e = joined_by t x a b e (group_joined t a b e) (opens_group t x) refl

-- extension octets open no group, and all of them belong to the group before them
extension_no_category : (b : ℕ) → extension b ≡ true → category b ≡ false
extension_no_category b h = let one : b4 b ≡ 1 = eqb-true _ _ (both_true _ _ h).0 in ne_eqb (b4 b) 0 (λ z. omega (arith, one, z))

pub no_group : (t : ℕ) (e : List ℕ) → every extension e ≡ true → group_from t e ≡ []
unfolding group_from every when both
no_group t [] h = refl
no_group t (b ∷ e) h = let here = both_true _ _ h in simp (extension_no_category b here.0, no_group t e here.1)

whole_stretch : (e : List ℕ) → every extension e ≡ true → take (until_category e) e ≡ e
unfolding until_category every when
whole_stretch [] h = refl
whole_stretch (b ∷ e) h = let here = both_true _ _ h in simp (extension_no_category b here.0, whole_stretch e here.1)

-- a group alone
pub lone_group : (t b : ℕ) (e : List ℕ) → category b ≡ true → every extension e ≡ true → group_from t (b ∷ e) ≡ when (opens_group t b) (b ∷ e) []
unfolding group_from front_part when both
lone_group t b e c h = simp (c, whole_stretch e h, no_group t e h)
