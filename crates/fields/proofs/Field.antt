-- The field: none for no octets, and how long it is otherwise.
-- Assumes nothing.
use Prim.Native.Nat.{ℕ, ◌+◌, ◌<◌, ◌≤◌}
use native.Mathlib.Nat.{not-suc-le-zero}
use native.Mathlib.Omega.{arith}
use mathlib.Core.Path.{◌≡◌, refl, ap, ◌∙◌}
use mathlib.Core.Bool.{Bool, true, false}
use mathlib.Core.List.{List, [], ◌∷◌}
use borrow.Author.Tests.{eq-eqb, ne_eqb}
use lib.Dec.{eqb}
use lib.ListN.{length, set}
use Rattle.laws.specs.Logic.{when}
use Rattle.laws.specs.Front.{front}
use Rattle.laws.proofs.Logic.{either_way}
use Rattle.laws.specs.Tests.{every}
use Rattle.octets.specs.Octets.{category_octet}
use Rattle.fields.specs.Packing.{extensions_for, packed}
use Rattle.fields.specs.Blocks.{blocks_of, fits, blocks_fault}
use Rattle.fields.specs.Field.{field_tag, is_packed, packing_fault, field_of}
use Rattle.fields.proofs.Packing.{packed_length}

pub field_none : (octets : List ℕ) → length octets ≡ 0 → field_of octets ≡ []
unfolding field_of when
field_none octets none = simp (eq-eqb _ _ none)

module _ (octets : List ℕ) (some : length octets ≡ 0 → ⊥) where
  pub field_some : field_of octets ≡ category_octet field_tag 0 ∷ packed octets
  unfolding field_of when
  field_some = simp (ne_eqb _ _ some)

  pub field_length : length (field_of octets) ≡ 1 + extensions_for (length octets)
  field_length = ap length field_some ∙ omega (arith, packed_length octets)

pub field_most : (octets : List ℕ) → length (field_of octets) ≤ 1 + extensions_for (length octets)
unfolding field_of
field_most octets = either_way (λ (l : List ℕ). length l ≤ 1 + extensions_for (length octets)) (eqb (length octets) 0) [] (category_octet field_tag 0 ∷ packed octets) (λ _. omega arith) (λ _. omega (arith, packed_length octets))

-- the first octet of a buffer
pub first_put : (b : ℕ) (out : List ℕ) → 0 < length out → set out 0 b ≡ front (b ∷ []) out
first_put b [] h = absurd (not-suc-le-zero h)
first_put b (x ∷ out) h = refl

-- nothing is written of nothing
pub front_nothing : (new out : List ℕ) → length new ≡ 0 → out ≡ front new out
front_nothing [] out h = refl
front_nothing (b ∷ new) out h = absurd (let z : ⊥ = omega (arith, h) in z)

-- refusals of a field, by the tests
module _ (octets : List ℕ) where
  pub blocks_fit : every fits (blocks_of octets) ≡ true → blocks_fault octets ≡ 0
  unfolding when
  blocks_fit e = simp e

  pub blocks_unfit : every fits (blocks_of octets) ≡ false → 14 ≡ blocks_fault octets
  unfolding when
  blocks_unfit e = simp e

accepted_if : (t : Bool) → ◌≡◌ {A = ℕ} (when t 0 15) 0 → t ≡ true
unfolding when
accepted_if true e = refl
accepted_if false e = absurd (let z : ⊥ = omega (arith, e) in z)

module _ (group : List ℕ) where
  pub packed_well : is_packed group ≡ true → packing_fault group ≡ 0
  unfolding when
  packed_well e = simp e

  pub packed_if : packing_fault group ≡ 0 → is_packed group ≡ true
  packed_if = accepted_if (is_packed group)

  pub packed_badly : is_packed group ≡ false → 15 ≡ packing_fault group
  unfolding when
  packed_badly e = simp e
