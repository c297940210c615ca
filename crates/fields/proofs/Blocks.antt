-- Laws about blocks, over plain lists: what the first block is and what remains behind it, and so where each one stands.
-- Assumes nothing.
use Prim.Native.Nat.{ℕ, zero, suc, ◌<◌, ◌≤◌, ◌+◌, ◌-◌}
use native.Mathlib.Omega.{arith}
use native.Mathlib.Nat.{not-suc-le-zero, le_of_suc-le-suc}
use mathlib.Core.Path.{◌≡◌, refl, sym, ap, ap₂, subst, ◌∙◌}
use mathlib.Core.Bool.{Bool, true, false}
use mathlib.Core.List.{List, [], ◌∷◌, ◌++◌}
use borrow.Author.Tests.{lt-ltb, le-ltb, eq-eqb, ltb-true, ltb-false, leb-true, eqb-true}
use lib.Dec.{ltb, leb, eqb}
use lib.ListN.{length, take, drop, get_or, take-append-drop, length-append, length-take, drop_of_length-le}
use lib.Seq.{take_all, take-take, take_at, drop_at, drop-cons, get_or-take, drop-append-add}
use Rattle.laws.specs.Logic.{when, both}
use Rattle.laws.specs.Joined.{joined}
use Rattle.laws.specs.Tests.{every}
use Rattle.laws.proofs.Logic.{same_either_way, both_true, clash}
use Rattle.laws.proofs.Joined.{joined_within, joined_more_length}
use Rattle.fields.specs.declared.Block.{Block}
use Rattle.fields.specs.Blocks.{blocks_behind, blocks_of, length_of, full, country_size, provider_size, codes_size, fits, span, no_block, block_in, block_at, place_of}

-- the blocks behind a block that is under way are those of what remains behind it
pub blocks_remain : (k : ℕ) (octets : List ℕ) → blocks_behind k octets ≡ blocks_of (drop k octets)
unfolding blocks_behind
blocks_remain zero octets = refl
blocks_remain (suc k) [] = refl
blocks_remain (suc k) (b ∷ octets) = blocks_remain k octets

-- the first block, and the blocks of what remains
pub blocks_first : (n : ℕ) (octets : List ℕ) → blocks_of (n ∷ octets) ≡ (n ∷ take n octets) ∷ blocks_of (drop n octets)
unfolding blocks_behind
blocks_first n octets = ap (λ (others : List (List ℕ)). (n ∷ take n octets) ∷ others) (blocks_remain n octets)

-- where that is longer than what remains it is the last, with what there is
pub blocks_last : (n : ℕ) (octets : List ℕ) → length octets ≤ n → blocks_of (n ∷ octets) ≡ (n ∷ octets) ∷ []
unfolding blocks_behind
blocks_last n octets short = blocks_first n octets ∙ simp (take_all n octets short, drop_of_length-le octets short)

-- the blocks joined are the octets
joined_remain : (k : ℕ) (octets : List ℕ) → joined (blocks_behind k octets) ≡ drop k octets
unfolding blocks_behind joined
joined_remain zero [] = refl
joined_remain (suc k) [] = refl
joined_remain zero (n ∷ octets) = ap (λ (others : List ℕ). n ∷ take n octets ++ others) (joined_remain n octets) ∙ ap (λ (others : List ℕ). n ∷ others) (take-append-drop n octets)
joined_remain (suc k) (b ∷ octets) = joined_remain k octets

pub blocks_joined : (octets : List ℕ) → joined (blocks_of octets) ≡ octets
blocks_joined octets = joined_remain 0 octets

-- there are no more blocks than octets
blocks_behind_few : (k : ℕ) (octets : List ℕ) → length (blocks_behind k octets) ≤ length octets
unfolding blocks_behind
blocks_behind_few zero [] = omega arith
blocks_behind_few (suc k) [] = omega arith
blocks_behind_few zero (n ∷ octets) = omega (arith, blocks_behind_few n octets)
blocks_behind_few (suc k) (b ∷ octets) = omega (arith, blocks_behind_few k octets)

pub blocks_few : (octets : List ℕ) → length (blocks_of octets) ≤ length octets
blocks_few octets = blocks_behind_few 0 octets

-- the second half of the test: room for the codes
abbrev codes_fit : List ℕ → Bool
codes_fit block = both (ltb (country_size block) (length_of block)) (leb (codes_size block) (length_of block))

-- a block that fits has all that its length counts, and room for its codes
pub fits_parts : (block : List ℕ) → fits block ≡ true → (length_of block < length block) × (country_size block < length_of block) × (codes_size block ≤ length_of block)
fits_parts block fit =
    let there = both_true (ltb (length_of block) (length block)) (codes_fit block) fit in
    let codes = both_true (ltb (country_size block) (length_of block)) (leb (codes_size block) (length_of block)) there.1 in
    (ltb-true (length_of block) (length block) there.0, ltb-true (country_size block) (length_of block) codes.0, leb-true (codes_size block) (length_of block) codes.1)

-- a block by its place and sizes
abbrev pub laid : ℕ → ℕ → ℕ → ℕ → Block
laid place size country provider =
    record {
      whole = span place (1 + size);
      country = span (place + 1) country;
      provider = span (place + 1 + country + 1) provider;
      rest = span (place + 1 + (country + 1 + provider)) (size - (country + 1 + provider));
    }

module _ (place : ℕ) (block : List ℕ) where
  pub block_fits : fits block ≡ true → block_in place block ≡ laid place (length_of block) (country_size block) (provider_size block)
  unfolding block_in when
  block_fits fit = simp fit

  pub block_none : fits block ≡ false → block_in place block ≡ no_block
  unfolding block_in when
  block_none unfit = simp unfit

  pub whole_size : fits block ≡ true → (block_in place block).whole.size ≡ 1 + length_of block
  whole_size fit = ap (λ (b : Block). b.whole.size) (block_fits fit)

-- the second of two tests is asked only where the first holds
both_where : (a b c : Bool) → (a ≡ true → b ≡ c) → both a b ≡ both a c
unfolding both
both_where true b c same = same refl
both_where false b c same = refl

-- the octets behind a block have no part in whether it fits
module _ (n : ℕ) (octets : List ℕ) where
  there_alone : (t : Bool) → ltb n (suc (length octets)) ≡ t → ltb n (suc (length (take n octets))) ≡ t
  there_alone true e = lt-ltb n (suc (length (take n octets))) (omega (arith, ltb-true n (suc (length octets)) e, length-take n octets))
  there_alone false e = le-ltb n (suc (length (take n octets))) (omega (arith, ltb-false n (suc (length octets)) e, length-take n octets))

  country_alone : country_size (n ∷ take n octets) ≡ country_size (n ∷ octets)
  country_alone = ap (λ (l : List ℕ). full l + 1) (take-take n n octets (omega arith))

  provider_alone : country_size (n ∷ octets) < n → provider_size (n ∷ take n octets) ≡ provider_size (n ∷ octets)
  provider_alone inside =
      let country = country_size (n ∷ octets) in
      let behind : 1 + country ≡ suc country = omega arith in
      ap (λ (size : ℕ). get_or (n ∷ take n octets) (1 + size) 0) country_alone ∙ simp behind (get_or-take n octets country 0 inside)

  codes_alone : country_size (n ∷ octets) < n → codes_size (n ∷ take n octets) ≡ codes_size (n ∷ octets)
  codes_alone inside = ap₂ (λ (country provider : ℕ). country + 1 + provider) country_alone (provider_alone inside)

  codes_fit_alone : codes_fit (n ∷ take n octets) ≡ codes_fit (n ∷ octets)
  codes_fit_alone =
      let country = country_size (n ∷ octets) in
      ap (λ (size : ℕ). both (ltb size n) (leb (codes_size (n ∷ take n octets)) n)) country_alone ∙ both_where (ltb country n) (leb (codes_size (n ∷ take n octets)) n) (leb (codes_size (n ∷ octets)) n) (λ inside. ap (λ (size : ℕ). leb size n) (codes_alone (ltb-true country n inside)))

  pub fits_alone : fits (n ∷ take n octets) ≡ fits (n ∷ octets)
  fits_alone = ap₂ both (there_alone (ltb n (suc (length octets))) refl) codes_fit_alone

  -- nor in what it is
  pub block_alone : (place : ℕ) → block_in place (n ∷ take n octets) ≡ block_in place (n ∷ octets)
  unfolding block_in
  block_alone place =
      let alone = laid place n (country_size (n ∷ take n octets)) (provider_size (n ∷ take n octets)) in
      let there = laid place n (country_size (n ∷ octets)) (provider_size (n ∷ octets)) in
      ap (λ (t : Bool). when t alone no_block) fits_alone ∙ same_either_way (fits (n ∷ octets)) alone there no_block no_block (λ fit. ap₂ (laid place n) country_alone (provider_alone (fits_parts (n ∷ octets) fit).1)) (λ _. refl)

-- a block that fits is all there: it has its length octet and what that counts
pub fits_whole : (n : ℕ) (octets : List ℕ) → fits (n ∷ octets) ≡ true → length (n ∷ take n octets) ≡ 1 + n
fits_whole n octets fit = omega (arith, (fits_parts (n ∷ octets) fit).0, length-take n octets)

-- every block fits: the first, and every one of what remains
pub every_first : (n : ℕ) (octets : List ℕ) → every fits (blocks_of (n ∷ octets)) ≡ both (fits (n ∷ octets)) (every fits (blocks_of (drop n octets)))
unfolding every
every_first n octets = ap (λ (blocks : List (List ℕ)). every fits blocks) (blocks_first n octets) ∙ ap (λ (t : Bool). both t (every fits (blocks_of (drop n octets)))) (fits_alone n octets)

pub every_at : {A : Type 0} (f : A → Bool) (list : List A) (k : ℕ) (d : A) → every f list ≡ true → k < length list → f (get_or list k d) ≡ true
unfolding every
every_at f [] k d all inside = absurd (not-suc-le-zero inside)
every_at f (x ∷ list) zero d all inside = (both_true (f x) (every f list) all).0
every_at f (x ∷ list) (suc k) d all inside = every_at f list k d (both_true (f x) (every f list) all).1 (le_of_suc-le-suc inside)

-- what stands behind a front, as long as it is
past_front : (n k : ℕ) (octets : List ℕ) → drop (length (take n octets) + k) octets ≡ drop k (drop n octets)
past_front n k octets = ap (λ (l : List ℕ). drop (length (take n octets) + k) l) (sym (take-append-drop n octets)) ∙ drop-append-add (take n octets) (drop n octets) k

-- the blocks from a number on are those of the octets from its place on
pub blocks_from : (k : ℕ) (octets : List ℕ) → drop k (blocks_of octets) ≡ blocks_of (drop (place_of octets k) octets)
unfolding blocks_behind joined
blocks_from zero octets = refl
blocks_from (suc k) [] = refl
blocks_from (suc k) (n ∷ octets) =
    let others = blocks_behind n octets in
    let behind = length (joined (take k others)) in
    let same : behind ≡ place_of (drop n octets) k = ap (λ (blocks : List (List ℕ)). length (joined (take k blocks))) (blocks_remain n octets) in
    ap (λ (blocks : List (List ℕ)). drop k blocks) (blocks_remain n octets) ∙ blocks_from k (drop n octets) ∙ ap (λ (m : ℕ). blocks_of (drop m (drop n octets))) (sym same) ∙ ap blocks_of (sym (past_front n behind octets)) ∙ ap (λ (m : ℕ). blocks_of (drop m octets)) (sym (length-append (take n octets) (joined (take k others))))

-- where octets have a first block, that is read in front
record FirstOf (octets block : List ℕ) : Type 0 where
  same_fit : fits octets ≡ fits block
  same_length : length_of octets ≡ length_of block
  same_block : (place : ℕ) → block_in place octets ≡ block_in place block
  whole : fits octets ≡ true → length block ≡ 1 + length_of block

first_of : (octets block : List ℕ) (others : List (List ℕ)) → blocks_of octets ≡ block ∷ others → FirstOf octets block
unfolding blocks_behind
first_of [] block others is-first = absurd (let none : ◌≡◌ {A = ℕ} 0 (suc (length others)) = ap length is-first in let z : ⊥ = omega arith in z)
first_of (n ∷ octets) block others is-first =
    let first : n ∷ take n octets ≡ block = ap (λ (blocks : List (List ℕ)). get_or blocks 0 []) is-first in
    record {
      same_fit = sym (fits_alone n octets) ∙ ap fits first;
      same_length = ap length_of first;
      same_block = λ place. sym (block_alone n octets place) ∙ ap (block_in place) first;
      whole = λ fit. subst (λ (b : List ℕ). length b ≡ 1 + length_of b) first (fits_whole n octets fit);
    }

-- a block of a number stands at its place
module _ (octets : List ℕ) (k : ℕ) (inside : k < length (blocks_of octets)) where
  blocks_there : blocks_of (drop (place_of octets k) octets) ≡ get_or (blocks_of octets) k [] ∷ drop (suc k) (blocks_of octets)
  blocks_there = sym (blocks_from k octets) ∙ drop-cons (blocks_of octets) k [] inside

  first_there : FirstOf (drop (place_of octets k) octets) (get_or (blocks_of octets) k [])
  first_there = first_of (drop (place_of octets k) octets) (get_or (blocks_of octets) k []) (drop (suc k) (blocks_of octets)) blocks_there

  -- with what follows behind it
  pub place_begins : drop (place_of octets k) octets ≡ get_or (blocks_of octets) k [] ++ joined (drop (suc k) (blocks_of octets))
  unfolding joined
  place_begins = sym (blocks_joined (drop (place_of octets k) octets)) ∙ ap joined blocks_there

  -- and what is read there is read of it alone
  pub block_at_place : block_at octets (place_of octets k) ≡ block_in (place_of octets k) (get_or (blocks_of octets) k [])
  block_at_place = first_there.same_block (place_of octets k)

  -- where every block fits it is all there
  module _ (all_fit : every fits (blocks_of octets) ≡ true) where
    pub place_fits_lem : fits (drop (place_of octets k) octets) ≡ true
    place_fits_lem = first_there.same_fit ∙ every_at fits (blocks_of octets) k [] all_fit inside

    pub place_whole : length (get_or (blocks_of octets) k []) ≡ 1 + length_of (get_or (blocks_of octets) k [])
    place_whole = first_there.whole place_fits_lem

    pub place_size : (block_at octets (place_of octets k)).whole.size ≡ length (get_or (blocks_of octets) k [])
    place_size = whole_size (place_of octets k) (drop (place_of octets k) octets) place_fits_lem ∙ ap (λ (n : ℕ). 1 + n) first_there.same_length ∙ sym place_whole

    -- so the next one begins behind it
    pub place_next : place_of octets (k + 1) ≡ place_of octets k + (block_at octets (place_of octets k)).whole.size
    place_next = joined_more_length (blocks_of octets) k ∙ ap (λ (n : ℕ). place_of octets k + n) (sym place_size)

-- no place lies past the end
pub place_within : (octets : List ℕ) (k : ℕ) → place_of octets k ≤ length octets
place_within octets k = omega (arith, joined_within (blocks_of octets) k, ap length (blocks_joined octets))

-- one block and nothing behind it, which fits
abbrev pub alone : List ℕ → Bool
alone block = both (fits block) (eqb (length block) (1 + length_of block))

-- blocks that are joined are read again
pub joined_blocks : (blocks : List (List ℕ)) → every alone blocks ≡ true → blocks_of (joined blocks) ≡ blocks
unfolding every joined blocks_behind both
joined_blocks [] all = refl
joined_blocks ([] ∷ blocks) all = clash (sym (both_true (alone []) (every alone blocks) all).0)
joined_blocks ((n ∷ octets) ∷ blocks) all =
    let parts = both_true (alone (n ∷ octets)) (every alone blocks) all in
    let exact : length octets ≡ n = omega (arith, eqb-true (suc (length octets)) (1 + n) (both_true (fits (n ∷ octets)) (eqb (suc (length octets)) (1 + n)) parts.0).1) in
    blocks_first n (octets ++ joined blocks) ∙ ap₂ (λ (first others : List ℕ). (n ∷ first) ∷ blocks_of others) (take_at octets (joined blocks) n exact) (drop_at octets (joined blocks) n exact) ∙ ap (λ (others : List (List ℕ)). (n ∷ octets) ∷ others) (joined_blocks blocks parts.1)

-- and each fits there
alone_fit : (blocks : List (List ℕ)) → every alone blocks ≡ true → every fits blocks ≡ true
unfolding every both
alone_fit [] all = refl
alone_fit (block ∷ blocks) all =
    let parts = both_true (alone block) (every alone blocks) all in
    ap₂ both (both_true (fits block) (eqb (length block) (1 + length_of block)) parts.0).0 (alone_fit blocks parts.1)

pub joined_fit : (blocks : List (List ℕ)) → every alone blocks ≡ true → every fits (blocks_of (joined blocks)) ≡ true
joined_fit blocks all = ap (every fits) (joined_blocks blocks all) ∙ alone_fit blocks all

-- blocks that are read are such blocks, where each fits
behind_alone : (k : ℕ) (octets : List ℕ) → every fits (blocks_behind k octets) ≡ true → every alone (blocks_behind k octets) ≡ true
unfolding every blocks_behind both
behind_alone zero [] all = refl
behind_alone (suc k) [] all = refl
behind_alone zero (n ∷ octets) all =
    let parts = both_true (fits (n ∷ take n octets)) (every fits (blocks_behind n octets)) all in
    let exact = eq-eqb (length (n ∷ take n octets)) (1 + n) (fits_whole n octets (sym (fits_alone n octets) ∙ parts.0)) in
    ap₂ both (ap₂ both parts.0 exact) (behind_alone n octets parts.1)
behind_alone (suc k) (b ∷ octets) all = behind_alone k octets all

pub blocks_alone : (octets : List ℕ) → every fits (blocks_of octets) ≡ true → every alone (blocks_of octets) ≡ true
blocks_alone octets all = behind_alone 0 octets all
