-- Laws about groups, one octet at a time: what a loop over a message cites.
-- Assumes nothing.
use Prim.Native.Nat.{ℕ, suc, ◌<◌, ◌≤◌, ◌+◌, ◌-◌}
use native.Mathlib.Numerals.{add-one}
use native.Mathlib.Omega.{arith}
use mathlib.Core.Path.{◌≡◌, ap, ◌∙◌}
use mathlib.Core.Bool.{true, false}
use mathlib.Core.List.{List, [], ◌∷◌}
use borrow.Author.Tests.{lt-ltb, eq-eqb, ne_eqb, eqb-true}
use lib.Dec.{ltb, eqb}
use lib.ListN.{length, take, drop, get_or, length-take, drop_of_length-le}
use lib.Seq.{drop-cons}
use Rattle.laws.specs.Logic.{when}
use Rattle.laws.proofs.Logic.{either_way}
use Rattle.octets.specs.declared.Purpose.TheVariants.{Reading}
use Rattle.refusals.specs.declared.Refusal.{Refusal}
use Rattle.refusals.specs.Refusals.{number}
use Rattle.octets.specs.Octets.{category}
use Rattle.octets.specs.Lists.{list_fault, until_category}
use Rattle.octets.proofs.Lists.{accepted_short}
use Rattle.refusals.proofs.Numbers.{number_some}
use Rattle.menus.specs.Groups.{Looked, place, nowhere, refusal, opens_group, first_group, looked, front_part, part_at, onward, part_start}

-- one octet at a time
module _ (t : ℕ) (s : List ℕ) (i : ℕ) where
  pub group_here : i < length s → opens_group t (get_or s i 0) ≡ true → first_group t i (drop i s) ≡ place i
  unfolding first_group when
  group_here h e = simp (drop-cons s i 0 h, e)

  pub group_later : i < length s → opens_group t (get_or s i 0) ≡ false → first_group t i (drop i s) ≡ first_group t (i + 1) (drop (i + 1) s)
  unfolding first_group when
  group_later h e = simp (drop-cons s i 0 h, e, add-one)

  pub group_none : length s ≤ i → first_group t i (drop i s) ≡ nowhere
  unfolding first_group
  group_none h = simp (drop_of_length-le s h)

-- and a group's extension octets
module _ (s : List ℕ) (i : ℕ) (there : i < length s) where
  pub until_here : category (get_or s i 0) ≡ true → until_category (drop i s) ≡ 0
  unfolding until_category when
  until_here e = simp (drop-cons s i 0 there, e)

  pub until_on : category (get_or s i 0) ≡ false → until_category (drop i s) ≡ suc (until_category (drop (i + 1) s))
  unfolding until_category when
  until_on e = simp (drop-cons s i 0 there, e, add-one)

-- a place below m, if it is one
abbrev pub Below : ℕ → Looked → Type 0
Below m (place n) = n < m
Below m nowhere = Unit
Below m (refusal n) = Unit

wider : (m k : ℕ) (l : Looked) → m ≤ k → Below m l → Below k l
wider m k (place n) h b = omega arith
wider m k nowhere h b = tt
wider m k (refusal n) h b = tt

-- no group stands past the end
group_below : (t i : ℕ) (s : List ℕ) → Below (i + length s) (first_group t i s)
unfolding first_group
group_below t i [] = tt
group_below t i (b ∷ s) =
    either_way (Below (i + suc (length s))) (opens_group t b) (place i) (first_group t (i + 1) s) (λ _. omega arith)
    (λ _. wider (i + 1 + length s) (i + suc (length s)) (first_group t (i + 1) s) (omega arith) (group_below t (i + 1) s))

pub looked_below : (octets : List ℕ) (t : ℕ) → Below 64 (looked octets t)
unfolding looked
looked_below octets t =
    either_way (Below 64) (eqb (list_fault Reading octets) 0) (first_group t 0 octets) (refusal (list_fault Reading octets))
    (λ e. wider (0 + length octets) 64 (first_group t 0 octets) (omega (arith, accepted_short Reading octets (eqb-true (list_fault Reading octets) 0 e))) (group_below t 0 octets))
    (λ _. tt)

-- by whether the message can be read
module _ (octets : List ℕ) (t : ℕ) where
  pub looked_read : list_fault Reading octets ≡ 0 → looked octets t ≡ first_group t 0 octets
  unfolding looked when
  looked_read e = simp (eq-eqb _ _ e)

  pub looked_refused : (r : Refusal) → number r ≡ list_fault Reading octets → refusal (number r) ≡ looked octets t
  unfolding looked when
  looked_refused r e = simp (ne_eqb (list_fault Reading octets) 0 (λ z. number_some r (e ∙ z))) (ap refusal e)

-- a part is no longer than what it is taken from
pub part_short : (octets : List ℕ) → length (front_part octets) ≤ length octets
unfolding front_part
part_short [] = omega arith
part_short (b ∷ octets) =
    either_way (λ (l : List ℕ). length l ≤ suc (length octets)) (category b) (b ∷ take (until_category octets) octets) [] (λ _. omega (arith, length-take (until_category octets) octets)) (λ _. omega arith)

-- the part of a place
module _ (s : List ℕ) (i : ℕ) where
  pub part_here : i < length s → category (get_or s i 0) ≡ true → (r : ℕ) → r ≡ i + 1 + until_category (drop (i + 1) s) → take (r - i) (drop i s) ≡ part_at s i
  unfolding front_part when
  part_here h c r e =
      let n : r - i ≡ suc (until_category (drop (i + 1) s)) = omega arith in
      simp (n, drop-cons s i 0 h, c, add-one)

  pub part_not : i < length s → category (get_or s i 0) ≡ false → part_at s i ≡ []
  unfolding front_part when
  part_not h c = simp (drop-cons s i 0 h, c)

  pub part_past : length s ≤ i → part_at s i ≡ []
  unfolding front_part
  part_past h = simp (drop_of_length-le s h)

  -- where it stands
  pub start_here : i < length s → category (get_or s i 0) ≡ true → part_start s i ≡ i
  unfolding front_part when
  start_here h c =
      let extensions = take (until_category (drop (suc i) s)) (drop (suc i) s) in
      let there : part_at s i ≡ get_or s i 0 ∷ extensions = simp (drop-cons s i 0 h, c) in
      ap (λ (part : List ℕ). when (ltb 0 (length part)) i 0) there ∙ simp (lt-ltb 0 (suc (length extensions)) (omega arith))

  pub start_none : part_at s i ≡ [] → part_start s i ≡ 0
  unfolding when
  start_none none = simp none

-- a slice that begins so many octets behind another stands there
pub stands_onward : (start : ℕ × ℕ) (from octets : ℕ) → octets ≡ from → (start.0, from + start.1) ≡ onward start octets
stands_onward start from octets same = ap (λ (n : ℕ). (start.0, n)) (omega (arith, same))

pub stands_at_front : (start : ℕ × ℕ) → (start.0, 0 + start.1) ≡ start
stands_at_front start = ap (λ (n : ℕ). (start.0, n)) (omega arith)
