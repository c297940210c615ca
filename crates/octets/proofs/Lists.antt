-- Laws about octet lists, one octet at a time: what a loop over a list cites.
-- Assumes nothing.
use Prim.Native.Nat.{ℕ, suc, ◌<◌, ◌≤◌, ◌+◌}
use native.Mathlib.Numerals.{add-one}
use native.Mathlib.Omega.{arith}
use mathlib.Core.Path.{◌≡◌, refl, sym, ap, ◌∙◌}
use mathlib.Core.Bool.{Bool, true, false}
use mathlib.Core.List.{List, [], ◌∷◌, ◌++◌}
use borrow.Author.Tests.{ltb-true, ltb-false, lt-ltb, eq-eqb, ne_eqb, eqb-true, eqb-false}
use lib.Dec.{ltb, eqb}
use lib.ListN.{length, drop, get_or, drop_of_length-le}
use lib.Seq.{drop-cons}
use Rattle.laws.specs.Logic.{when, both}
use Rattle.laws.proofs.Logic.{either_way}
use Rattle.octets.specs.declared.Purpose.{Purpose}
use Rattle.octets.specs.Octets.{category, tag, call_function_tag}
use Rattle.refusals.specs.Refusals.{before}
use Rattle.octets.specs.Lists.{octet_fault, first_fault, opens, list_fault, until_category, group_ends}

pub opens_none : (s : List ℕ) → length s ≡ 0 → opens s ≡ false
opens_none [] h = refl
opens_none (b ∷ s) h = absurd (let z : ⊥ = omega arith in z)

pub opens_some : (s : List ℕ) → 0 < length s → opens s ≡ both (category (get_or s 0 0)) (eqb (tag (get_or s 0 0)) call_function_tag)
opens_some [] h = absurd (omega (arith, h))
opens_some (b ∷ s) h = refl

-- an accepted list has 64 octets at most
short_by : (p : Purpose) (s : List ℕ) (t : Bool) → ltb 64 (length s) ≡ t → when t 4 (when (opens s) (first_fault p (drop 1 s)) 5) ≡ 0 → length s ≤ 64
unfolding when
short_by p s true l e = omega (arith, e)
short_by p s false l e = ltb-false 64 (length s) l

pub accepted_short : (p : Purpose) (s : List ℕ) → list_fault p s ≡ 0 → length s ≤ 64
accepted_short p s e = short_by p s (ltb 64 (length s)) refl e

-- opens with the call function, and nothing behind that is at fault
opens_by : (p : Purpose) (s : List ℕ) (t : Bool) → opens s ≡ t → when t (first_fault p (drop 1 s)) 5 ≡ 0 → (opens s ≡ true) × (first_fault p (drop 1 s) ≡ 0)
unfolding when
opens_by p s true o e = (o, e)
opens_by p s false o e = absurd (omega (arith, e))

accepted_parts : (p : Purpose) (s : List ℕ) → list_fault p s ≡ 0 → (opens s ≡ true) × (first_fault p (drop 1 s) ≡ 0)
accepted_parts p s =
    either_way (λ (n : ℕ). n ≡ 0 → (opens s ≡ true) × (first_fault p (drop 1 s) ≡ 0)) (ltb 64 (length s)) 4 (when (opens s) (first_fault p (drop 1 s)) 5)
    (λ _ e. absurd (omega (arith, e)))
    (λ _ e. opens_by p s (opens s) refl e)

pub accepted_opens : (p : Purpose) (s : List ℕ) → list_fault p s ≡ 0 → opens s ≡ true
accepted_opens p s e = (accepted_parts p s e).0

pub accepted_rest : (p : Purpose) (s : List ℕ) → list_fault p s ≡ 0 → first_fault p (drop 1 s) ≡ 0
accepted_rest p s e = (accepted_parts p s e).1

module _ (p : Purpose) (s : List ℕ) (i : ℕ) where
  pub fault_here : i < length s → (octet_fault p (get_or s i 0) ≡ 0 → ⊥) → first_fault p (drop i s) ≡ octet_fault p (get_or s i 0)
  unfolding first_fault when
  fault_here h n = simp (drop-cons s i 0 h, ne_eqb _ _ n)

  pub fault_on : i < length s → octet_fault p (get_or s i 0) ≡ 0 → first_fault p (drop i s) ≡ first_fault p (drop (i + 1) s)
  unfolding first_fault when
  fault_on h e = simp (drop-cons s i 0 h, eq-eqb _ _ e, add-one)

  pub fault_end : length s ≤ i → first_fault p (drop i s) ≡ 0
  unfolding first_fault
  fault_end h = simp (drop_of_length-le s h)

-- where a group ends, by whether an octet stands there
module _ (s : List ℕ) (i : ℕ) where
  ends_by : (t : Bool) → ltb i (length s) ≡ t → when t (category (get_or s i 0)) true ≡ true → until_category (drop i s) ≡ 0
  unfolding when until_category
  ends_by true l e = simp (drop-cons s i 0 (ltb-true i (length s) l), e)
  ends_by false l e = simp (drop_of_length-le s (ltb-false i (length s) l))

  on_by : (t : Bool) → ltb i (length s) ≡ t → when t (category (get_or s i 0)) true ≡ false → (i < length s) × (until_category (drop i s) ≡ suc (until_category (drop (i + 1) s)))
  unfolding when until_category
  on_by true l e = let h = ltb-true i (length s) l in (h, simp (drop-cons s i 0 h, e, add-one))
  on_by false l e = let z : ◌≡◌ {A = ℕ} 0 1 = cc in absurd (let w : ⊥ = omega arith in w)

  pub group_end : group_ends s i ≡ true → until_category (drop i s) ≡ 0
  group_end e = ends_by (ltb i (length s)) refl e

  pub group_on : group_ends s i ≡ false → (i < length s) × (until_category (drop i s) ≡ suc (until_category (drop (i + 1) s)))
  group_on e = on_by (ltb i (length s)) refl e

  pub until_end : length s ≤ i → until_category (drop i s) ≡ 0
  unfolding until_category
  until_end h = simp (drop_of_length-le s h)

-- octets behind octets: the first fault is that of the front, or of what follows
before_by : (f g h : ℕ) (t : Bool) → eqb f 0 ≡ t → when t (before g h) f ≡ before (when t g f) h
unfolding when
before_by f g h true e = refl
before_by f g h false e = simp e

pub fault_append : (p : Purpose) (a b : List ℕ) → first_fault p (a ++ b) ≡ before (first_fault p a) (first_fault p b)
unfolding first_fault when
fault_append p [] b = refl
fault_append p (x ∷ a) b = ap (λ (n : ℕ). before (octet_fault p x) n) (fault_append p a b) ∙ before_by (octet_fault p x) (first_fault p a) (first_fault p b) (eqb (octet_fault p x) 0) refl

-- nothing is refused where neither of two is
pub before_none : (f g : ℕ) → before f g ≡ 0 → (f ≡ 0) × (g ≡ 0)
before_none f g = either_way (λ (n : ℕ). n ≡ 0 → (f ≡ 0) × (g ≡ 0)) (eqb f 0) g f (λ t z. (eqb-true f 0 t, z)) (λ t z. absurd (eqb-false f 0 t z))

-- no fault in both is none in either, and the other way round
pub faultless : (p : Purpose) (a b : List ℕ) → first_fault p a ≡ 0 → first_fault p b ≡ 0 → first_fault p (a ++ b) ≡ 0
unfolding when
faultless p a b h k = fault_append p a b ∙ simp (h, k)

pub faultless_parts : (p : Purpose) (a b : List ℕ) → first_fault p (a ++ b) ≡ 0 → (first_fault p a ≡ 0) × (first_fault p b ≡ 0)
faultless_parts p a b e = before_none (first_fault p a) (first_fault p b) (sym (fault_append p a b) ∙ e)

-- a category octet in front ends the group before it
pub group_starts : (b : ℕ) (bs : List ℕ) → category b ≡ true → group_ends (b ∷ bs) 0 ≡ true
unfolding when
group_starts b bs c = simp (lt-ltb 0 (suc (length bs)) (omega arith), c)
