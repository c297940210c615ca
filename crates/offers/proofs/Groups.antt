-- Groups one behind the other: the reader finds each by its tag, since each begins with a category octet and goes on with extension octets.
-- Assumes nothing.
use Prim.Native.Nat.{ℕ, zero, suc, ◌<◌, ◌+◌, ◌*◌, ◌/◌, ◌%◌}
use native.Mathlib.Omega.{arith}
use mathlib.Core.Path.{◌≡◌, refl, ap, ◌∙◌}
use mathlib.Core.Bool.{Bool, true, false}
use mathlib.Core.List.{List, [], ◌∷◌, ◌++◌}
use borrow.Author.Tests.{eq-eqb}
use lib.Dec.{eqb, lit<}
use Rattle.laws.specs.Logic.{when, both}
use Rattle.laws.specs.Joined.{joined}
use Rattle.laws.specs.Tests.{every}
use Rattle.octets.specs.Octets.{b3, b4, b5, category, category_octet, extension}
use Rattle.octets.specs.Lists.{group_ends}
use Rattle.octets.proofs.Lists.{group_starts}
use Rattle.octets.proofs.Made.{category_there, tag_there}
use Rattle.items.specs.Items.{modulation, no_items, modulation_octet}
use Rattle.items.proofs.Places.{octet_0, octet_1, octet_2, octet_past}
use Rattle.menus.specs.Groups.{opens_group}
use Rattle.menus.proofs.Joined.{group_from, or_else, group_joined, lone_group}
use Rattle.offers.specs.Making.{one_octet, modulation_from, modulation_group}

-- no octets, or a category octet with extension octets
abbrev pub Group : List ℕ → Type 0
Group [] = Unit
Group (b ∷ e) = (category b ≡ true) × (every extension e ≡ true)

abbrev pub Groups : List (List ℕ) → Type 0
Groups [] = Unit
Groups (group ∷ groups) = Group group × Groups groups

-- a group, if it has the tag
abbrev pub of_tag : ℕ → List ℕ → List ℕ
of_tag t [] = []
of_tag t (b ∷ e) = when (opens_group t b) (b ∷ e) []

-- the first group that has the tag
abbrev pub first_of : ℕ → List (List ℕ) → List ℕ
first_of t [] = []
first_of t (group ∷ groups) = or_else (of_tag t group) (first_of t groups)

joined_ends : (groups : List (List ℕ)) → Groups groups → group_ends (joined groups) 0 ≡ true
unfolding joined when
joined_ends [] h = refl
joined_ends ([] ∷ groups) h = joined_ends groups h.1
joined_ends ((b ∷ e) ∷ groups) h = group_starts b (e ++ joined groups) h.0.0

alone : (t : ℕ) (group : List ℕ) → Group group → group_from t group ≡ of_tag t group
unfolding group_from
alone t [] h = refl
alone t (b ∷ e) h = lone_group t b e h.0 h.1

pub group_found : (t : ℕ) (groups : List (List ℕ)) → Groups groups → group_from t (joined groups) ≡ first_of t groups
unfolding joined group_from
group_found t [] h = refl
group_found t (group ∷ groups) h =
    group_joined t group (joined groups) (joined_ends groups h.1)
    ∙ ap (λ (l : List ℕ). or_else l (group_from t (joined groups))) (alone t group h.0)
    ∙ ap (λ (l : List ℕ). or_else (of_tag t group) l) (group_found t groups h.1)

-- a group of one octet
pub none_chosen_lem : (b : Bool) → ◌≡◌ {A = List ℕ} [] (when b [] [])
unfolding when
none_chosen_lem true = refl
none_chosen_lem false = refl

module _ (t o : ℕ) where
  pub one_group : (there : Bool) → Group (one_octet there (category_octet t o))
  unfolding when every
  one_group true = (category_there t o, refl)
  one_group false = tt

  opens_there : t < 16 → (s : ℕ) → opens_group s (category_octet t o) ≡ eqb t s
  unfolding both
  opens_there h s = simp (category_there t o, tag_there t o h)

  pub one_of_tag : t < 16 → (there : Bool) (s : ℕ) → of_tag s (one_octet there (category_octet t o)) ≡ when (eqb t s) (one_octet there (category_octet t o)) []
  unfolding when
  one_of_tag h true s = ap (λ (b : Bool). when b (category_octet t o ∷ []) []) (opens_there h s)
  one_of_tag h false s = none_chosen_lem (eqb t s)

-- the modulation group
extension_there : (low high : ℕ) → low < 8 → extension (no_items + low + 64 * high) ≡ true
unfolding both
extension_there low high h =
    let n = no_items + low + 64 * high in
    simp (eq-eqb (b4 n) 1 (omega (arith, h)), eq-eqb (b3 n) 0 (omega (arith, h)), eq-eqb (b5 n) 0 (omega (arith, h)))

module _ (items : ℕ) where
  extension_octet : (k five : ℕ) → modulation_octet items k ≡ no_items + five % 8 + 64 * (five / 8 % 4) → extension (modulation_octet items k) ≡ true
  extension_octet k five e = rw e (extension_there (five % 8) (five / 8 % 4) (omega arith))

  -- each octet behind the first is one
  extends : (octet : ℕ) → extension (modulation_octet items (suc octet)) ≡ true
  unfolding both
  extends zero = extension_octet 1 (items / 8) (octet_1 items)
  extends (suc zero) = extension_octet 2 (items / 256) (octet_2 items)
  extends (suc (suc octet)) = rw (octet_past items (suc (suc (suc octet))) (omega arith))

  extensions : (more octet : ℕ) → every extension (modulation_from items (suc octet) more) ≡ true
  unfolding modulation_from every both
  extensions zero octet = refl
  extensions (suc more) octet = simp (extends octet, extensions more (suc octet))

  pub modulation_group_lem : (count : ℕ) → Group (modulation_group count items)
  unfolding modulation_from
  modulation_group_lem zero = tt
  modulation_group_lem (suc more) = (rw (octet_0 items) (category_there modulation items), extensions more 0)

  pub modulation_of_tag : (count s : ℕ) → of_tag s (modulation_group count items) ≡ when (eqb modulation s) (modulation_group count items) []
  unfolding modulation_from
  modulation_of_tag zero s = none_chosen_lem (eqb modulation s)
  modulation_of_tag (suc more) s = ap (λ (b : Bool). when b (modulation_group (suc more) items) []) (ap (λ (b : ℕ). opens_group s b) (octet_0 items) ∙ opens_there modulation items (lit< tt) s)

pub or_nothing : (group : List ℕ) → or_else group [] ≡ group
or_nothing [] = refl
or_nothing (b ∷ e) = refl
