-- The sets of a plan stay sound, whatever is said: each holds what may be said at its place.
-- Assumes nothing.
use Rattle.std.proofs.Common.{◌≡◌, ℕ, zero, suc, ◌+◌, ◌%◌, ◌^◌, ◌<◌, ◌≤◌, Bool, true, false, eqb, ltb, leb, ◌⊎◌, List, length, get_or, set, sym, refl, ◌∙◌, subst, inl, inr, arith, lit<, length-set, get_or-set_other, get_or-set_same, eq-eqb, eqb-true, leb-true}
use borrow.Author.Tests.{eqb-false}
use Rattle.laws.specs.Logic.{when, both, either}
use Rattle.laws.specs.Tests.{all_below}
use Rattle.laws.proofs.Logic.{either_way, clash}
use Rattle.laws.proofs.Computed.{below}
use Rattle.items.specs.Items.{in_set}
use Rattle.items.proofs.Bits.{first_item}
use Rattle.plans.specs.Reading.{place, added}
use Rattle.plans.proofs.Runs.{holds}
use Rattle.plans.proofs.Places.{place_fits_lem}

-- the set of what an end wants and what its line is; that of a function, where only a function that is named has modes; the home function
pub record Fits (k numbers : ℕ) : Type 0 where
  pub said : k ≡ 0 → numbers ≤ 15
  pub small : 1 ≤ k → k ≤ 6 → numbers < 65536
  pub whole : 1 ≤ k → k ≤ 6 → (numbers % 2 ≡ 1) ⊎ (numbers ≡ 0)
  pub home : k ≡ 7 → numbers ≤ 6

fits_said : (numbers : ℕ) → numbers ≤ 15 → Fits 0 numbers
fits_said numbers few = record { said = λ _. few; small = λ l _. absurd (omega (arith, l)); whole = λ l _. absurd (omega (arith, l)); home = λ e. absurd (omega (arith, e)) }

pub fits_home : (f : ℕ) → f ≤ 6 → Fits 7 f
fits_home f is_one = record { said = λ e. absurd (omega (arith, e)); small = λ _ l. absurd (omega (arith, l)); whole = λ _ l. absurd (omega (arith, l)); home = λ _. is_one }

fits_modes : (f numbers : ℕ) → 1 ≤ f → f ≤ 6 → numbers < 65536 → numbers % 2 ≡ 1 → Fits f numbers
fits_modes f numbers some six low odd = record { said = λ e. absurd (omega (arith, e, some)); small = λ _ _. low; whole = λ _ _. inl odd; home = λ e. absurd (omega (arith, e, six)) }

-- nothing is said
pub fits_none : (k : ℕ) → Fits k 0
fits_none k = record { said = λ _. omega arith; small = λ _ _. lit< tt; whole = λ _ _. inr refl; home = λ _. omega arith }

-- every set
abbrev pub Sound : List ℕ → Type 0
Sound sets = (length sets ≡ 16) × ((p : ℕ) → Fits (p % 8) (get_or sets p 0))

place_of : (end k : ℕ) → k < 8 → place end k % 8 ≡ k
place_of end k h = either_way (λ (p : ℕ). p % 8 ≡ k) (eqb end 1) (k % 8) (8 + k % 8) (λ _. omega (arith, h)) (λ _. omega (arith, h))

module _ (sets : List ℕ) (sound : Sound sets) (end k : ℕ) (h : k < 8) where
  pub sound_at : Fits k (get_or sets (place end k) 0)
  sound_at = subst (λ (n : ℕ). Fits n (get_or sets (place end k) 0)) (place_of end k h) (sound.1 (place end k))

  pub sound_set : (numbers : ℕ) → Fits k numbers → Sound (set sets (place end k) numbers)
  sound_set numbers fits = (length-set sets (place end k) numbers ∙ sound.0, each)
    where
      each : (p : ℕ) → Fits (p % 8) (get_or (set sets (place end k) numbers) p 0)
      each p = go (eqb p (place end k)) refl
        where
          go : (t : Bool) → eqb p (place end k) ≡ t → Fits (p % 8) (get_or (set sets (place end k) numbers) p 0)
          go true same = rw (eqb-true p (place end k) same, place_of end k h, get_or-set_same sets (place end k) numbers 0 (omega (arith, sound.0, place_fits_lem end k))) fits
          go false other = rw (get_or-set_other sets (place end k) p numbers 0 (eqb-false p (place end k) other)) (sound.1 p)

-- one number more: of what is wanted and what the line is
more_said : (numbers n : ℕ) → numbers ≤ 15 → n ≤ 3 → in_set numbers n ≡ false → added numbers n ≤ 15
unfolding all_below both either in_set when
more_said numbers n few is_one is-new =
    let all = below (λ (s : ℕ). all_below (λ (m : ℕ). either (in_set s m) (leb (added s m) 15)) 4) 16 tt numbers (omega (arith, few)) in
    let here = holds (either (in_set numbers n) (leb (added numbers n) 15)) (below (λ (m : ℕ). either (in_set numbers m) (leb (added numbers m) 15)) 4 all n (omega (arith, is_one))) in
    leb-true (added numbers n) 15 (rw is-new at here)

pub fits_wanted : (numbers n : ℕ) → Fits 0 numbers → n ≤ 3 → in_set numbers n ≡ false → Fits 0 (added numbers n)
fits_wanted numbers n fits is_one is-new = fits_said (added numbers n) (more_said numbers n (fits.said refl) is_one is-new)

-- a function is named, and a mode is added to one that is named
pub named_odd : (numbers : ℕ) → in_set numbers 0 ≡ false → added numbers 0 % 2 ≡ 1
unfolding when
named_odd numbers is-new = omega (arith, eqb-false (numbers % 2) 1 (sym (first_item numbers) ∙ is-new))

pub added_odd : (numbers n : ℕ) → numbers % 2 ≡ 1 → in_set numbers n ≡ false → added numbers n % 2 ≡ 1
added_odd numbers zero odd is-new = clash (sym (eq-eqb (numbers % 2) 1 odd) ∙ sym (first_item numbers) ∙ is-new)
added_odd numbers (suc n) odd is-new = either_way (λ (k : ℕ). k % 2 ≡ 1) (ltb (suc n) 16) ((numbers + 2 ^ suc n) % 65536) numbers (λ _. omega (arith, odd)) (λ _. odd)

pub fits_more : (f numbers n : ℕ) → 1 ≤ f → f ≤ 6 → Fits f numbers → added numbers n % 2 ≡ 1 → Fits f (added numbers n)
fits_more f numbers n some six fits odd =
    fits_modes f (added numbers n) some six
    (either_way (λ (k : ℕ). k < 65536) (ltb n 16) ((numbers + 2 ^ n) % 65536) numbers (λ _. omega arith) (λ _. fits.small some six)) odd
