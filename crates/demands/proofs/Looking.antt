-- Looking finds the first group with a tag, by induction over the octets; the part of a place ends at the next category octet; and what is read
-- is what stands at the places that are found.
-- Assumes nothing.
use Prim.Native.Nat.{ℕ, zero, suc, ◌+◌, ◌/◌, ◌<◌, ◌≤◌}
use native.Mathlib.Omega.{arith}
use mathlib.Core.Path.{◌≡◌, refl, sym, ap, subst, ◌∙◌}
use mathlib.Core.Bool.{Bool, true, false, not}
use mathlib.Core.List.{List, [], ◌∷◌}
use borrow.Author.Tests.{eqb-true, eqb-false, eq-eqb, lt-ltb, le-ltb, ltb-true, ltb-false}
use lib.Dec.{eqb, ltb}
use lib.ListN.{length, take, drop, get_or, length-drop}
use lib.Seq.{drop-cons, get_or-drop, length-take-le}
use Rattle.laws.specs.Logic.{when, both}
use Rattle.laws.specs.Tests.{every}
use Rattle.laws.proofs.Logic.{either_way, both_true, clash}
use Rattle.octets.specs.declared.Purpose.TheVariants.{Reading}
use Rattle.octets.specs.Octets.{category, options}
use Rattle.octets.specs.Lists.{list_fault, until_category, group_ends}
use Rattle.octets.proofs.Lists.{group_starts}
use Rattle.items.specs.Items.{modulation, places, place_of, has_item}
use Rattle.items.proofs.Places.{item_past}
use Rattle.menus.specs.Groups.{Looked, place, nowhere, refusal, opens_group, first_group, looked, front_part, part_at, part_of, group_of, options_in}
use Rattle.menus.specs.Offer.{pcm_tag, protocol, access, stands}
use Rattle.menus.proofs.Looking.{looked_read, part_not, part_past}
use Rattle.demands.specs.Looking.{Begins, FirstGroup, Finds, PartOf, ReadsWhatIsFound, LooksAndReads}

-- a place that the test says no group begins at
not_begun : (octets : List ℕ) (t p : ℕ) → opens_group t (get_or octets p 0) ≡ false → Begins octets t p → ⊥
unfolding both
not_begun octets t p tested begun = clash (sym (simp (begun.opens, eq-eqb _ _ begun.tagged)) ∙ tested)

pub begun : (octets : List ℕ) (t p : ℕ) → p < length octets → opens_group t (get_or octets p 0) ≡ true → Begins octets t p
begun octets t p there tested = let tests = both_true _ _ tested in record { there = there; opens = tests.0; tagged = eqb-true _ _ tests.1 }

-- one octet in front of the others
pub later_begun : (b : ℕ) (bs : List ℕ) (t p : ℕ) → Begins (b ∷ bs) t (suc p) → Begins bs t p
later_begun b bs t p at = record { there = omega (arith, at.there); opens = at.opens; tagged = at.tagged }

pub begun_later : (b : ℕ) (bs : List ℕ) (t p : ℕ) → Begins bs t p → Begins (b ∷ bs) t (suc p)
begun_later b bs t p at = record { there = omega (arith, at.there); opens = at.opens; tagged = at.tagged }

-- what is found from i on, i octets being before these
abbrev pub FindsFrom : List ℕ → ℕ → ℕ → Looked → Type 0
FindsFrom octets t i (place p) = (q : ℕ) × (p ≡ i + q) × FirstGroup octets t q
FindsFrom octets t i nowhere = (q : ℕ) → Begins octets t q → ⊥
FindsFrom octets t i (refusal n) = ⊥

module _ (b : ℕ) (bs : List ℕ) (t i : ℕ) (not-here : opens_group t b ≡ false) where
  none_before : (q : ℕ) → ((r : ℕ) → r < q → Begins bs t r → ⊥) → (r : ℕ) → r < suc q → Begins (b ∷ bs) t r → ⊥
  none_before q first zero low at = not_begun (b ∷ bs) t 0 not-here at
  none_before q first (suc r) low at = first r (omega arith) (later_begun b bs t r at)

  none_there : ((q : ℕ) → Begins bs t q → ⊥) → (q : ℕ) → Begins (b ∷ bs) t q → ⊥
  none_there none zero at = not_begun (b ∷ bs) t 0 not-here at
  none_there none (suc q) at = none q (later_begun b bs t q at)

  found_later : (l : Looked) → FindsFrom bs t (i + 1) l → FindsFrom (b ∷ bs) t i l
  found_later (place p) f = (suc f.0, omega (arith, f.1), record { begins = begun_later b bs t f.0 f.2.begins; first = none_before f.0 f.2.first })
  found_later nowhere f = none_there f
  found_later (refusal n) f = f

pub found_from : (octets : List ℕ) (t i : ℕ) → FindsFrom octets t i (first_group t i octets)
unfolding first_group
found_from [] t i = λ q at. omega (arith, at.there)
found_from (b ∷ bs) t i =
    either_way (FindsFrom (b ∷ bs) t i) (opens_group t b) (place i) (first_group t (i + 1) bs)
    (λ here. (0, omega arith, record { begins = begun (b ∷ bs) t 0 (omega arith) here; first = λ q low at. omega arith }))
    (λ not-here. found_later b bs t i not-here (first_group t (i + 1) bs) (found_from bs t (i + 1)))

pub from_0 : (octets : List ℕ) (t : ℕ) (l : Looked) → FindsFrom octets t 0 l → Finds octets t l
from_0 octets t (place p) f = let at : f.0 ≡ p = omega (arith, f.1) in subst (FirstGroup octets t) at f.2
from_0 octets t nowhere f = f
from_0 octets t (refusal n) f = absurd f

found : (octets : List ℕ) (t : ℕ) → Finds octets t (looked octets t)
unfolding looked
found octets t =
    either_way (Finds octets t) (eqb (list_fault Reading octets) 0) (first_group t 0 octets) (refusal (list_fault Reading octets))
    (λ _. from_0 octets t (first_group t 0 octets) (found_from octets t 0)) (λ refused. (refl, eqb-false _ _ refused))

-- where a group ends, behind octets that are left out
ends_dropped : (l : List ℕ) (k n : ℕ) → k ≤ length l → group_ends (drop k l) n ≡ true → group_ends l (k + n) ≡ true
unfolding when
ends_dropped l k n within =
    either_way (λ (ended : Bool). ended ≡ true → group_ends l (k + n) ≡ true) (ltb n (length (drop k l))) (category (get_or (drop k l) n 0)) true
    (λ inside e. simp (lt-ltb (k + n) (length l) (omega (arith, ltb-true n (length (drop k l)) inside, length-drop k l)), sym (get_or-drop k l n 0)) e)
    (λ past _. simp (le-ltb (k + n) (length l) (omega (arith, ltb-false n (length (drop k l)) past, length-drop k l))))

-- the octets up to the next category octet
record UpTo (l : List ℕ) (n : ℕ) : Type 0 where
  within : n ≤ length l
  free : every (λ b. not (category b)) (take n l) ≡ true
  ends : group_ends l n ≡ true

up_to : (l : List ℕ) → UpTo l (until_category l)
unfolding until_category every when both
up_to [] = record { within = omega arith; free = refl; ends = refl }
up_to (b ∷ bs) =
    either_way (UpTo (b ∷ bs)) (category b) 0 (suc (until_category bs)) (λ here. record { within = omega arith; free = refl; ends = group_starts b bs here })
    (λ extension. let later = up_to bs in let one_more : 1 + until_category bs ≡ suc (until_category bs) = omega arith in
    record { within = omega (arith, later.within); free = simp extension later.free; ends = subst (λ (n : ℕ). group_ends (b ∷ bs) n ≡ true) one_more (ends_dropped (b ∷ bs) 1 (until_category bs) (omega arith) later.ends) })

module _ (octets : List ℕ) (p : ℕ) (there : p < length octets) (opens : category (get_or octets p 0) ≡ true) where
  abbrev behind : List ℕ
  behind = drop (suc p) octets

  pub part_is : part_at octets p ≡ get_or octets p 0 ∷ take (until_category behind) behind
  unfolding front_part when
  part_is = simp (drop-cons octets p 0 there, opens)

  part_stands : PartOf octets p (part_at octets p)
  unfolding every
  part_stands =
      let upto = up_to behind in
      let n = until_category behind in
      let size : length (take n behind) ≡ n = length-take-le n behind upto.within in
      rw part_is (record {
        some = omega arith;
        stretch = rw (drop-cons octets p 0 there, size) refl;
        extensions = upto.free;
        ends = subst (λ (k : ℕ). group_ends octets k ≡ true) (omega (arith, size)) (ends_dropped octets (suc p) n (omega arith) upto.ends);
      })

-- no octets have no items
pub no_item : (i : ℕ) → i < 13 → has_item [] i ≡ false
no_item i low = item_past [] i low (omega arith)

some_octets : (b : ℕ) (bs : List ℕ) → stands (b ∷ bs) ≡ true
some_octets b bs = lt-ltb 0 (suc (length bs)) (omega arith)

by_access : (there : Bool) {n : ℕ} → n ≡ 0 → when there n 0 ≡ 0
unfolding when
by_access true none = none
by_access false none = refl

-- what is read stands at the places that are found
module _ (octets : List ℕ) (read : list_fault Reading octets ≡ 0) where
  group_found : (t p : ℕ) → looked octets t ≡ place p → group_of octets t ≡ part_at octets p
  unfolding group_of
  group_found t p e = ap (part_of octets) (sym (looked_read octets t read) ∙ e)

  group_missing : (t : ℕ) → looked octets t ≡ nowhere → group_of octets t ≡ []
  unfolding group_of
  group_missing t e = ap (part_of octets) (sym (looked_read octets t read) ∙ e)

  -- its first octet is the one at the place
  first_octet_lem : (t p : ℕ) → looked octets t ≡ place p → (stands (group_of octets t) ≡ true) × (options_in (group_of octets t) ≡ options (get_or octets p 0))
  first_octet_lem t p e =
      let at = (subst (Finds octets t) e (found octets t)).begins in
      let is = group_found t p e ∙ part_is octets p at.there at.opens in
      let extensions = take (until_category (drop (suc p) octets)) (drop (suc p) octets) in
      (ap stands is ∙ some_octets (get_or octets p 0) extensions, ap options_in is)

  reads_what_is_found : ReadsWhatIsFound octets
  unfolding when has_item
  reads_what_is_found = record {
    function = refl;
    items = λ p i e. ap (λ (group : List ℕ). has_item group i) (group_found modulation p e);
    no_items = λ i low e. ap (λ (group : List ℕ). has_item group i) (group_missing modulation e) ∙ no_item i low;
    pcm = λ p q e f. simp (first_octet_lem access q f).0 (first_octet_lem pcm_tag p e).1;
    no_pcm = λ e. by_access (stands (group_of octets access)) (ap options_in (group_missing pcm_tag e));
    pcm_alone = λ e. simp (group_missing access e);
    lapm = λ p e. ap (λ (n : ℕ). eqb n 1) (first_octet_lem protocol p e).1;
    no_lapm = λ e. ap (λ (group : List ℕ). eqb (options_in group) 1) (group_missing protocol e);
    with_access = λ p e. (first_octet_lem access p e).0;
    access_options = λ p e. (first_octet_lem access p e).1;
    no_access = λ e. ap stands (group_missing access e);
    no_options = λ e. ap options_in (group_missing access e);
  }

by_one : (n : ℕ) → n / 1 ≡ n
by_one n = omega arith

pub looks_and_reads : LooksAndReads
unfolding places place_of has_item
looks_and_reads = record {
  finds = found;
  part = part_stands;
  no_part = part_not;
  past_the_end = part_past;
  reads = reads_what_is_found;
  items = λ first second third more. rw (by_one second, by_one third) refl;
  shorter = λ first second. rw (by_one second) refl;
  shortest = λ first. refl;
}
