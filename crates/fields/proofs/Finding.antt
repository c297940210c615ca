-- The field of a heard menu, by what looking for its tag finds.
-- Assumes nothing.
use Prim.Native.Nat.{ℕ, suc, ◌+◌, ◌-◌, ◌<◌, ◌≤◌}
use native.Mathlib.Omega.{arith}
use mathlib.Core.Path.{◌≡◌, refl, sym, ap, subst, ◌∙◌}
use mathlib.Core.Bool.{true, false}
use mathlib.Core.List.{List, [], ◌∷◌}
use borrow.Author.Tests.{eqb-true, ne_eqb}
use lib.Dec.{eqb}
use lib.ListN.{length, take, drop, length-drop}
use Rattle.laws.specs.Logic.{when, both}
use Rattle.laws.specs.Tests.{every}
use Rattle.laws.proofs.Logic.{either_way, both_true, clash}
use Rattle.refusals.specs.declared.Refusal.{Refusal}
use Rattle.std.specs.Prelude.{Result, Ok, Err}
use Rattle.refusals.specs.Refusals.{number}
use Rattle.refusals.specs.Lent.{Meets}
use Rattle.refusals.proofs.Outcomes.{meets_refused, meets_accepted, meets_put}
use Rattle.octets.specs.declared.Purpose.TheVariants.{Reading}
use Rattle.octets.specs.Octets.{category, tag, call_function_tag}
use Rattle.octets.specs.Lists.{until_category, opens, list_fault}
use Rattle.octets.proofs.Lists.{accepted_short, accepted_opens}
use Rattle.menus.specs.Groups.{Looked, place, nowhere, refusal, opens_group, first_group, looked, front_part, part_at, part_of, group_of}
use Rattle.menus.proofs.Looking.{looked_read, part_short}
use Rattle.fields.specs.Packing.{joined_bits, groups_of, unpacked}
use Rattle.fields.specs.Blocks.{blocks_behind}
use Rattle.fields.specs.Field.{field_tag, field_octets, field_read}
use Rattle.fields.specs.Inner.{group_read}
use Rattle.fields.proofs.Packing.{unpacked_length}

-- where the first group of a tag is found, some octets stand; looking in octets refuses nothing
abbrev There : ℕ → List ℕ → Looked → Type 0
There i octets (place p) = (i ≤ p) × (0 < length (front_part (drop (p - i) octets)))
There i octets nowhere = Unit
There i octets (refusal n) = ⊥

there_later : (i b : ℕ) (octets : List ℕ) (l : Looked) → There (i + 1) octets l → There i (b ∷ octets) l
there_later i b octets (place p) h =
    let next : p - i ≡ suc (p - (i + 1)) = omega (arith, h.0) in
    (omega (arith, h.0), rw next h.1)
there_later i b octets nowhere h = tt
there_later i b octets (refusal n) h = h

first_there : (t i : ℕ) (octets : List ℕ) → There i octets (first_group t i octets)
unfolding first_group front_part
first_there t i [] = tt
first_there t i (b ∷ octets) =
    let here : i - i ≡ 0 = omega arith in
    either_way (There i (b ∷ octets)) (opens_group t b) (place i) (first_group t (i + 1) octets)
    (λ opens. (omega arith, rw here (either_way (λ (l : List ℕ). 0 < length l) (category b) (b ∷ take (until_category octets) octets) [] (λ _. omega arith) (λ no. clash (sym (both_true (category b) _ opens).0 ∙ no)))))
    (λ _. there_later i b octets (first_group t (i + 1) octets) (first_there t (i + 1) octets))

-- a group behind the first octet is shorter than the whole
part_behind : (b : ℕ) (octets : List ℕ) (l : Looked) → There 1 octets l → length (part_of (b ∷ octets) l) ≤ length octets
part_behind b octets (place p) late = omega (arith, part_short (drop p (b ∷ octets)), length-drop p (b ∷ octets), late.0)
part_behind b octets nowhere late = omega arith
part_behind b octets (refusal n) late = absurd late

-- the first octet of a menu is the call function's
opens_other : (b : ℕ) → both (category b) (eqb (tag b) call_function_tag) ≡ true → opens_group field_tag b ≡ false
unfolding both
opens_other b opened = let is = both_true (category b) _ opened in simp (is.0, ne_eqb (tag b) field_tag (λ e. let z : ⊥ = omega (arith, e, eqb-true (tag b) call_function_tag is.1) in z))

group_few : (heard : List ℕ) → opens heard ≡ true → length (group_of heard field_tag) ≤ length heard - 1
unfolding group_of first_group when
group_few [] opened = omega arith
group_few (b ∷ octets) opened =
    let late = first_there field_tag 1 octets in
    simp (opens_other b opened) (omega (arith, part_behind b octets (first_group field_tag 1 octets) late))

-- so the field of a menu that can be read has few octets
pub field_few : (heard : List ℕ) → list_fault Reading heard ≡ 0 → length (field_octets (group_of heard field_tag)) ≤ 38
field_few heard fine =
    let group = group_of heard field_tag in
    omega (arith, unpacked_length (drop 1 group), length-drop 1 group, group_few heard (accepted_opens Reading heard fine), accepted_short Reading heard fine)

module _ (heard : List ℕ) where
  abbrev fault : ℕ
  fault = list_fault Reading heard

  -- what looking for the tag tells of the message
  abbrev Tells : Looked → Type 0
  Tells (place p) = (fault ≡ 0) × (first_group field_tag 0 heard ≡ place p)
  Tells nowhere = (fault ≡ 0) × (first_group field_tag 0 heard ≡ nowhere)
  Tells (refusal n) = n ≡ fault

  tells_read : (l : Looked) → first_group field_tag 0 heard ≡ l → fault ≡ 0 → Tells l
  tells_read (place p) found fine = (fine, found)
  tells_read nowhere found fine = (fine, found)
  tells_read (refusal n) found fine = absurd (subst (There 0 heard) found (first_there field_tag 0 heard))

  tells : Tells (looked heard field_tag)
  unfolding looked
  tells = either_way Tells (eqb fault 0) (first_group field_tag 0 heard) (refusal fault) (λ e. tells_read (first_group field_tag 0 heard) refl (eqb-true fault 0 e)) (λ _. refl)

  pub place_tells : (p : ℕ) → place p ≡ looked heard field_tag → (list_fault Reading heard ≡ 0) × (group_of heard field_tag ≡ part_at heard p)
  unfolding group_of
  place_tells p e = let told = subst Tells (sym e) tells in (told.0, ap (part_of heard) told.1)

  pub nowhere_tells : nowhere ≡ looked heard field_tag → (list_fault Reading heard ≡ 0) × (group_of heard field_tag ≡ [])
  unfolding group_of
  nowhere_tells e = let told = subst Tells (sym e) tells in (told.0, ap (part_of heard) told.1)

  -- a group that is empty is nowhere
  empty_nowhere : group_of heard field_tag ≡ [] → (l : Looked) → Tells l → fault ≡ 0 → l ≡ looked heard field_tag → looked heard field_tag ≡ nowhere
  unfolding group_of
  empty_nowhere none (place p) told fine e =
      let some = (subst (There 0 heard) told.1 (first_there field_tag 0 heard)).1 in
      let there : length (part_at heard p) ≡ 0 = ap length (sym (ap (part_of heard) told.1) ∙ none) in
      let whole : p - 0 ≡ p = omega arith in
      absurd (let z : ⊥ = omega (arith, there, rw whole at some) in z)
  empty_nowhere none nowhere told fine e = sym e
  empty_nowhere none (refusal n) told fine e = absurd (subst (There 0 heard) (sym (e ∙ looked_read heard field_tag fine)) (first_there field_tag 0 heard))

  pub nowhere_found : fault ≡ 0 → group_of heard field_tag ≡ [] → looked heard field_tag ≡ nowhere
  nowhere_found fine none = empty_nowhere none (looked heard field_tag) tells fine refl

  module _ (out : List ℕ) where
    abbrev octets : List ℕ
    octets = field_octets (group_of heard field_tag)

    -- it cannot be read
    pub read_refused : (r : Refusal) → refusal (number r) ≡ looked heard field_tag → Meets (field_read heard out) (Err r) out
    read_refused r e = meets_refused octets out _ _ r (subst Tells (sym e) tells)

    read_group_is : (group : List ℕ) → group_of heard field_tag ≡ group → fault ≡ 0 → (r : Result ℕ Refusal) (after : List ℕ) → Meets (group_read group out) r after → Meets (field_read heard out) r after
    read_group_is group e fine r after m = meets_accepted octets out _ _ r after fine (subst (λ (g : List ℕ). Meets (group_read g out) r after) (sym e) m)

    -- no group has the tag: nothing is read
    nothing_read : Meets (group_read [] out) (Ok 0) out
    unfolding unpacked joined_bits groups_of blocks_behind every both when
    nothing_read = meets_put [] out 0 out (omega arith) refl refl

    pub read_nothing : nowhere ≡ looked heard field_tag → Meets (field_read heard out) (Ok 0) out
    read_nothing e = let told = nowhere_tells e in read_group_is [] told.1 told.0 (Ok 0) out nothing_read

    -- a group has it
    module _ (p : ℕ) (e : place p ≡ looked heard field_tag) where
      pub read_found : (r : Result ℕ Refusal) (after : List ℕ) → Meets (group_read (part_at heard p) out) r after → Meets (field_read heard out) r after
      read_found r after m = let told = place_tells p e in read_group_is (part_at heard p) told.1 told.0 r after m

  module _ (p : ℕ) (e : place p ≡ looked heard field_tag) where
    pub group_some : 0 < length (part_at heard p)
    group_some = let whole : p - 0 ≡ p = omega arith in rw whole at (subst (There 0 heard) (subst Tells (sym e) tells).1 (first_there field_tag 0 heard)).1

    pub group_short : length (part_at heard p) ≤ 64
    group_short = omega (arith, part_short (drop p heard), length-drop p heard, accepted_short Reading heard (subst Tells (sym e) tells).0)
