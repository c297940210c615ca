-- The places of the sets of an end: there are sixteen, and no two sets stand at one.
-- Assumes nothing.
use Rattle.std.proofs.Common.{◌≡◌, ℕ, ◌+◌, ◌%◌, ◌<◌, ◌≤◌, Bool, true, false, eqb, List, length, get_or, set, sym, refl, ◌∙◌, arith, get_or-set_other, get_or-set_same, eqb-true}
use borrow.Author.Tests.{eqb-false}
use Rattle.laws.specs.Logic.{when}
use Rattle.laws.proofs.Logic.{either_way}
use Rattle.plans.specs.Reading.{place}

pub place_fits_lem : (end k : ℕ) → place end k < 16
place_fits_lem end k = either_way (λ (p : ℕ). p < 16) (eqb end 1) (k % 8) (8 + k % 8) (λ _. omega arith) (λ _. omega arith)

places_apart_lem : (end i k : ℕ) → i < 8 → k < 8 → (i ≡ k → ⊥) → place end i ≡ place end k → ⊥
unfolding when
places_apart_lem end i k h l apart same = go (eqb end 1) same
  where
    go : (t : Bool) → when t (i % 8) (8 + i % 8) ≡ when t (k % 8) (8 + k % 8) → ⊥
    go true e = apart (omega (arith, h, l, e))
    go false e = apart (omega (arith, h, l, e))

-- a set is changed, and no other
module _ (sets : List ℕ) (sixteen : length sets ≡ 16) (end k numbers : ℕ) where
  pub set_here : get_or (set sets (place end k) numbers) (place end k) 0 ≡ numbers
  set_here = get_or-set_same sets (place end k) numbers 0 (omega (arith, sixteen, place_fits_lem end k))

  pub set_there : (i : ℕ) → i < 8 → k < 8 → (i ≡ k → ⊥) → get_or (set sets (place end k) numbers) (place end i) 0 ≡ get_or sets (place end i) 0
  set_there i h l apart = get_or-set_other sets (place end k) (place end i) numbers 0 (places_apart_lem end i k h l apart)

-- nor do two sets of different ends
pub ends_apart : (end e k i : ℕ) → 1 ≤ end → end ≤ 2 → 1 ≤ e → e ≤ 2 → (e ≡ end → ⊥) → place e i ≡ place end k → ⊥
unfolding when
ends_apart end e k i low high l m apart same = go (eqb e 1) refl (eqb end 1) refl same
  where
    go : (s : Bool) → eqb e 1 ≡ s → (t : Bool) → eqb end 1 ≡ t → when s (i % 8) (8 + i % 8) ≡ when t (k % 8) (8 + k % 8) → ⊥
    go true p true q h = apart (eqb-true e 1 p ∙ sym (eqb-true end 1 q))
    go true p false q h = omega (arith, h)
    go false p true q h = omega (arith, h)
    go false p false q h = apart (omega (arith, eqb-false e 1 p, eqb-false end 1 q, low, high, l, m))
