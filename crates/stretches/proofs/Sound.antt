-- The octets of an accepted message: each is one that reading stores, and none is 0. Computed at each of the 256 octets.
-- Assumes nothing.
use Prim.Native.Nat.{ℕ, ◌<◌, ◌≤◌}
use native.Mathlib.Omega.{arith}
use mathlib.Core.Path.{◌≡◌, refl}
use mathlib.Core.Bool.{Bool, true, false, not}
use mathlib.Core.List.{List, [], ◌∷◌}
use borrow.Author.Tests.{ltb-true, le-ltb, not-true, eq-eqb}
use lib.Dec.{T, eqb, ltb}
use lib.ListN.{length, drop}
use Rattle.laws.specs.Logic.{when, both, either}
use Rattle.laws.specs.Tests.{all_below, every}
use Rattle.laws.proofs.Logic.{both_true}
use Rattle.laws.proofs.Computed.{below}
use Rattle.octets.specs.declared.Kind.{Kind}
use Rattle.octets.specs.declared.Kind.TheVariants.{Ci, Menu}
use Rattle.octets.specs.declared.Purpose.{Purpose}
use Rattle.octets.specs.declared.Purpose.TheVariants.{Reading, Writing}
use Rattle.octets.specs.Octets.{bad, category, tag}
use Rattle.octets.specs.Lists.{category_fault, octet_fault, first_fault, opens, list_fault}
use Rattle.octets.proofs.Lists.{accepted_short, before_none}
use Rattle.stretches.specs.Stretch.{octets_all, AcceptedMessage}
use Rattle.stretches.proofs.Each.{Each, none, more}

-- where the first test holds, so does the second
abbrev pub implies : Bool → Bool → Bool
implies a b = when a b true

pub implied : (a b : Bool) → T (implies a b) → a ≡ true → T b
unfolding when
implied true b t e = t
implied false b t e = absurd (let z : ◌≡◌ {A = ℕ} 0 1 = cc in let w : ⊥ = omega arith in w)

-- an octet that reading stores, and that is not 0
abbrev pub soundly : ℕ → Bool
soundly b = both (not (bad b)) (ltb 0 b)

pub record Sound (b : ℕ) : Type 0 where
  pub small : b < 256
  pub test : soundly b ≡ true

pub sound_shape : {b : ℕ} → Sound b → bad b ≡ false
sound_shape s = not-true _ (both_true _ _ s.test).0

truly : (b : Bool) → T b → b ≡ true
truly true t = refl
truly false t = absurd t

-- what the writer accepts is sound: computed at each octet
first_sound : (b : ℕ) → b < 256 → opens (b ∷ []) ≡ true → Sound b
unfolding when both either all_below
first_sound b h e = record { small = h; test = truly _ (implied _ _ (below (λ (k : ℕ). implies (opens (k ∷ [])) (soundly k)) 256 tt b h) e) }

abbrev later_sound : Kind → ℕ → Bool
later_sound kind b = implies (eqb (octet_fault (Writing kind) b) 0) (soundly b)

later_test : (kind : Kind) (b : ℕ) → b < 256 → T (later_sound kind b)
unfolding when both either all_below
later_test Ci b h = below (later_sound Ci) 256 tt b h
later_test Menu b h = below (later_sound Menu) 256 tt b h

later_sound_lem : (kind : Kind) (b : ℕ) → b < 256 → octet_fault (Writing kind) b ≡ 0 → Sound b
later_sound_lem kind b h e = record { small = h; test = truly _ (implied _ _ (later_test kind b h) (eq-eqb _ _ e)) }

every_small : (b : ℕ) (bs : List ℕ) → octets_all (b ∷ bs) ≡ true → (b < 256) × (octets_all bs ≡ true)
unfolding every
every_small b bs e = let parts = both_true _ _ e in (ltb-true b 256 parts.0, parts.1)

laters_sound : (kind : Kind) (bs : List ℕ) → octets_all bs ≡ true → first_fault (Writing kind) bs ≡ 0 → Each Sound bs
unfolding first_fault
laters_sound kind [] small e = none
laters_sound kind (b ∷ bs) small e =
    let parts = every_small b bs small in
    let fine = before_none (octet_fault (Writing kind) b) (first_fault (Writing kind) bs) e in
    more (later_sound_lem kind b parts.0 fine.0) (laters_sound kind bs parts.1 fine.1)

by_tests : (p : Purpose) (bs : List ℕ) (long opened : Bool) → opens bs ≡ opened → when long 4 (when opened (first_fault p (drop 1 bs)) 5) ≡ 0 → (opens bs ≡ true) × (first_fault p (drop 1 bs) ≡ 0)
unfolding when
by_tests p bs true opened o e = absurd (omega (arith, e))
by_tests p bs false true o e = (o, e)
by_tests p bs false false o e = absurd (omega (arith, e))

pub accepted_sound : (kind : Kind) (octets : List ℕ) → AcceptedMessage kind octets → Each Sound octets
accepted_sound kind [] a = none
accepted_sound kind (b ∷ bs) a =
    let parts = every_small b bs a.octet in
    let fine = by_tests (Writing kind) (b ∷ bs) (ltb 64 (length (b ∷ bs))) (opens (b ∷ bs)) refl a.taken in
    more (first_sound b parts.0 fine.0) (laters_sound kind bs parts.1 fine.1)

pub accepted_length : (kind : Kind) (octets : List ℕ) → AcceptedMessage kind octets → length octets ≤ 64
accepted_length kind octets a = accepted_short (Writing kind) octets a.taken

-- and it can be read: what the writer refuses beside what reading does is 12
octet_readable : (kind : Kind) (b : ℕ) → octet_fault (Writing kind) b ≡ 0 → octet_fault Reading b ≡ 0
unfolding when
octet_readable kind b e = by_tests_of (bad b) (category b) (category_fault (Writing kind) (tag b)) e
  where
    by_tests_of : (is-bad is-category : Bool) (fault : ℕ) → when {A = ℕ} is-bad 3 (when is-category fault 0) ≡ 0 → when {A = ℕ} is-bad 3 (when is-category 0 0) ≡ 0
    by_tests_of true is-category fault none_told = none_told
    by_tests_of false true fault none_told = refl
    by_tests_of false false fault none_told = refl

laters_readable : (kind : Kind) (bs : List ℕ) → first_fault (Writing kind) bs ≡ 0 → first_fault Reading bs ≡ 0
unfolding first_fault when
laters_readable kind [] e = refl
laters_readable kind (b ∷ bs) e =
    let fine = before_none (octet_fault (Writing kind) b) (first_fault (Writing kind) bs) e in
    simp (octet_readable kind b fine.0) (laters_readable kind bs fine.1)

pub accepted_readable : (kind : Kind) (octets : List ℕ) → AcceptedMessage kind octets → list_fault Reading octets ≡ 0
unfolding when
accepted_readable kind octets a =
    let fine = by_tests (Writing kind) octets (ltb 64 (length octets)) (opens octets) refl a.taken in
    simp (le-ltb 64 (length octets) (accepted_length kind octets a), fine.0) (laters_readable kind (drop 1 octets) fine.1)
