-- What the functions cite, over plain lists: the block at a place by its length and codes, the walk by its first block, the block of a number, and that
-- every part lies in the octets.
-- Assumes nothing.
use Prim.Native.Nat.{ℕ, suc, ◌<◌, ◌≤◌, ◌+◌, ◌-◌}
use native.Mathlib.Omega.{arith}
use mathlib.Core.Path.{◌≡◌, refl, sym, ap, ap₂, ◌∙◌}
use mathlib.Core.Bool.{Bool, true, false, cond}
use mathlib.Core.List.{List, [], ◌∷◌}
use borrow.Author.Tests.{lt-ltb, le-ltb, le-leb, lt-leb}
use lib.Dec.{ltb, eqb}
use lib.ListN.{length, take, drop, get_or, length-drop}
use lib.Seq.{drop-drop, get_or-drop}
use Rattle.std.specs.List.{prefix_len}
use Rattle.laws.specs.Logic.{when, both}
use Rattle.laws.specs.Tests.{every}
use Rattle.laws.proofs.Logic.{either_way, both_neither}
use Rattle.std.specs.Prelude.{Result, Ok, Err}
use Rattle.refusals.specs.declared.Refusal.{Refusal}
use Rattle.std.specs.Result.{is_ok}
use Rattle.refusals.specs.Refusals.{number}
use Rattle.refusals.proofs.Numbers.{named, named_number}
use Rattle.fields.specs.declared.Block.{Block}
use Rattle.fields.specs.declared.Part.{Part}
use Rattle.fields.specs.declared.Part.TheVariants.{Whole, Country, Provider, Rest}
use Rattle.fields.specs.Blocks.{blocks_behind, blocks_of, length_of, full, country_size, provider_size, codes_size, fits, Walked, blocks, refusal, says_walk, walked, no_block, block_in, block_at, place_of, block_of}
use Rattle.fields.specs.Inner.{counted, span_of}
use Rattle.fields.proofs.Blocks.{blocks_first, fits_parts, laid, block_fits, block_none, whole_size, every_first}

-- the octets of 255 in front are counted as the library counts what passes a test
full_by : (test : Bool) (n m : ℕ) → n ≡ m → when test (suc n) 0 ≡ cond test (1 + m) 0
unfolding when
full_by true n m same = omega arith
full_by false n m same = refl

pub full_prefix : (octets : List ℕ) → full octets ≡ prefix_len (λ b. eqb b 255) octets
unfolding full
full_prefix [] = refl
full_prefix (b ∷ octets) = full_by (eqb b 255) (full octets) _ (full_prefix octets)

-- a block that does not fit, by the first test that fails
module _ (block : List ℕ) where
  unfit_there : length block ≤ length_of block → fits block ≡ false
  unfolding both
  unfit_there short = simp (le-ltb _ _ short)

  unfit_country : length_of block ≤ country_size block → fits block ≡ false
  unfolding both
  unfit_country long = simp (le-ltb _ _ long) (both_neither (ltb (length_of block) (length block)))

  unfit_codes : length_of block < codes_size block → fits block ≡ false
  unfit_codes long =
      let country = ltb (country_size block) (length_of block) in
      ap (λ (t : Bool). both (ltb (length_of block) (length block)) (both country t)) (lt-leb (codes_size block) (length_of block) long) ∙ ap (both (ltb (length_of block) (length block))) (both_neither country) ∙ both_neither (ltb (length_of block) (length block))

  pub fit_by : length_of block < length block → country_size block < length_of block → codes_size block ≤ length_of block → fits block ≡ true
  unfolding both
  fit_by there country codes = simp (lt-ltb _ _ there, lt-ltb _ _ country, le-leb _ _ codes)

-- the block at a place
module _ (octets : List ℕ) (place : ℕ) where
  pub length_at : get_or octets place 0 ≡ length_of (drop place octets)
  length_at = ap (λ (k : ℕ). get_or octets k 0) (omega arith) ∙ sym (get_or-drop place octets 0 0)

  pub none_there : length octets - place ≤ length_of (drop place octets) → no_block ≡ block_at octets place
  none_there short = sym (block_none place (drop place octets) (unfit_there (drop place octets) (omega (arith, length-drop place octets))))

  module _ (size : ℕ) (is-size : size ≡ length_of (drop place octets)) where
    pub country_at : full (take (place + 1 + size - (place + 1)) (drop (place + 1) octets)) + 1 ≡ country_size (drop place octets)
    country_at =
        let counts : place + 1 + size - (place + 1) ≡ length_of (drop place octets) = omega arith in
        ap₂ (λ (n : ℕ) (l : List ℕ). full (take n l) + 1) counts (sym (drop-drop 1 place octets))

    module _ (country : ℕ) (is-country : country ≡ country_size (drop place octets)) where
      pub none_country : size ≤ country → no_block ≡ block_at octets place
      none_country long = sym (block_none place (drop place octets) (unfit_country (drop place octets) (omega arith)))

      provider_at : get_or octets (place + 1 + country) 0 ≡ provider_size (drop place octets)
      provider_at =
          let behind : place + 1 + country ≡ place + (1 + country_size (drop place octets)) = omega arith in
          ap (λ (k : ℕ). get_or octets k 0) behind ∙ sym (get_or-drop place octets (1 + country_size (drop place octets)) 0)

      pub none_codes : size < country + 1 + get_or octets (place + 1 + country) 0 → no_block ≡ block_at octets place
      none_codes long = sym (block_none place (drop place octets) (unfit_codes (drop place octets) (omega (arith, provider_at))))

      pub block_there : place + 1 + size ≤ length octets → country < size → country + 1 + get_or octets (place + 1 + country) 0 ≤ size → laid place size country (get_or octets (place + 1 + country) 0) ≡ block_at octets place
      block_there there inside room =
          let rest = drop place octets in
          let same : laid place size country (get_or octets (place + 1 + country) 0) ≡ laid place (length_of rest) (country_size rest) (provider_size rest) = λ i. laid place (is-size i) (is-country i) (provider_at i) in
          same ∙ sym (block_fits place rest (fit_by rest (omega (arith, length-drop place octets)) (omega arith) (omega (arith, provider_at))))

-- the walk, by the first block
pub walked_end : (octets : List ℕ) (before : ℕ) → length octets ≡ 0 → counted before (walked octets) ≡ blocks before
unfolding walked blocks_behind every when
walked_end [] before none = ap blocks (omega arith)
walked_end (n ∷ octets) before none = absurd (let z : ⊥ = omega arith in z)

-- a block that is read has no octets where it does not fit, and some where it does
module _ (block : List ℕ) where
  unsized_by : (t : Bool) → fits block ≡ t → (block_in 0 block).whole.size ≡ 0 → fits block ≡ false
  unsized_by true fit none = absurd (let z : ⊥ = omega (arith, whole_size 0 block fit) in z)
  unsized_by false unfit none = unfit

  some_by : (t : Bool) → fits block ≡ t → ((block_in 0 block).whole.size ≡ 0 → ⊥) → fits block ≡ true
  some_by true fit some = fit
  some_by false unfit some = absurd (some (ap (λ (b : Block). b.whole.size) (block_none 0 block unfit)))

-- one block more behind so many
counted_more : (before n : ℕ) (t : Bool) → counted before (when t (blocks (suc n)) (refusal 14)) ≡ counted (before + 1) (when t (blocks n) (refusal 14))
unfolding when
counted_more before n true = ap blocks (omega arith)
counted_more before n false = refl

walked_first : (n : ℕ) (octets : List ℕ) → walked (n ∷ octets) ≡ when (both (fits (n ∷ octets)) (every fits (blocks_of (drop n octets)))) (blocks (suc (length (blocks_of (drop n octets))))) (refusal 14)
unfolding walked
walked_first n octets = ap₂ (λ (t : Bool) (count : ℕ). when t (blocks count) (refusal 14)) (every_first n octets) (ap length (blocks_first n octets))

pub walked_refused : (octets : List ℕ) (before : ℕ) → 0 < length octets → (block_at octets 0).whole.size ≡ 0 → counted before (walked octets) ≡ refusal 14
unfolding both when
walked_refused [] before some none = absurd (let z : ⊥ = omega (arith, some) in z)
walked_refused (n ∷ octets) before some none =
    let unfit = unsized_by (n ∷ octets) (fits (n ∷ octets)) refl none in
    let remain = blocks_of (drop n octets) in
    ap (counted before) (walked_first n octets ∙ ap (λ (t : Bool). when (both t (every fits remain)) (blocks (suc (length remain))) (refusal 14)) unfit)

pub walked_on : (octets : List ℕ) (before : ℕ) → 0 < length octets → ((block_at octets 0).whole.size ≡ 0 → ⊥) → counted before (walked octets) ≡ counted (before + 1) (walked (drop (block_at octets 0).whole.size octets))
unfolding both walked
walked_on [] before some sized = absurd (let z : ⊥ = omega (arith, some) in z)
walked_on (n ∷ octets) before some sized =
    let fit = some_by (n ∷ octets) (fits (n ∷ octets)) refl sized in
    let remain = blocks_of (drop n octets) in
    let size : (block_at (n ∷ octets) 0).whole.size ≡ suc n = whole_size 0 (n ∷ octets) fit ∙ omega arith in
    ap (counted before) (walked_first n octets ∙ ap (λ (t : Bool). when (both t (every fits remain)) (blocks (suc (length remain))) (refusal 14)) fit) ∙ counted_more before (length remain) (every fits remain) ∙ ap (λ (k : ℕ). counted (before + 1) (walked (drop k (n ∷ octets)))) (sym size)

-- behind no block
pub counted_none : (w : Walked) → counted 0 w ≡ w
counted_none (blocks n) = ap blocks (omega arith)
counted_none (refusal n) = refl

-- where each part of a block lies: in the octets
pub record Within (octets : List ℕ) (block : Block) : Type 0 where
  pub whole : block.whole.place + block.whole.size ≤ length octets
  pub country : block.country.place + block.country.size ≤ length octets
  pub provider : block.provider.place + block.provider.size ≤ length octets
  pub rest : block.rest.place + block.rest.size ≤ length octets

pub part_within : (octets : List ℕ) (block : Block) → Within octets block → (part : Part) → (span_of block part).place + (span_of block part).size ≤ length octets
part_within octets block within Whole = within.whole
part_within octets block within Country = within.country
part_within octets block within Provider = within.provider
part_within octets block within Rest = within.rest

none_within : (octets : List ℕ) → Within octets no_block
none_within octets = omega arith

pub block_within : (octets : List ℕ) (place : ℕ) → Within octets (block_at octets place)
block_within octets place = by_test (fits (drop place octets)) refl
  where
    by_test : (t : Bool) → fits (drop place octets) ≡ t → Within octets (block_at octets place)
    by_test true fit =
        let parts = fits_parts (drop place octets) fit in
        let in_octets : Within octets (laid place (length_of (drop place octets)) (country_size (drop place octets)) (provider_size (drop place octets))) = omega (arith, parts.0, parts.1, parts.2, length-drop place octets) in
        rw (block_fits place (drop place octets) fit) in_octets
    by_test false unfit = rw (block_none place (drop place octets) unfit) (none_within octets)

pub first_within : (octets : List ℕ) (first : Block) → first ≡ block_at octets 0 → first.whole.size ≤ length octets
first_within octets first is-first = omega (arith, ap (λ (b : Block). b.whole.size) is-first, (block_within octets 0).whole)

-- the block of a number
module _ (octets : List ℕ) (number : ℕ) where
  pub found_none : every fits (blocks_of octets) ≡ false → no_block ≡ block_of octets number
  unfolding block_of when both
  found_none unfit = simp unfit

  pub found_past : length (blocks_of octets) ≤ number → no_block ≡ block_of octets number
  unfolding block_of when
  found_past past = simp (le-ltb _ _ past, both_neither)

  pub found_there : every fits (blocks_of octets) ≡ true → number < length (blocks_of octets) → block_at octets (place_of octets number) ≡ block_of octets number
  unfolding block_of when both
  found_there all_fit inside = simp (all_fit, lt-ltb _ _ inside)

  pub found_within : Within octets (block_of octets number)
  unfolding block_of
  found_within = either_way (Within octets) (both (every fits (blocks_of octets)) (ltb number (length (blocks_of octets)))) (block_at octets (place_of octets number)) no_block (λ _. block_within octets (place_of octets number)) (λ _. none_within octets)

-- what the walk's answer says of the blocks
pub walked_count : (octets : List ℕ) (n : ℕ) → blocks n ≡ walked octets → (every fits (blocks_of octets) ≡ true) × (n ≡ length (blocks_of octets))
unfolding walked
walked_count octets n =
    either_way (λ (w : Walked). blocks n ≡ w → (every fits (blocks_of octets) ≡ true) × (n ≡ length (blocks_of octets))) (every fits (blocks_of octets)) (blocks (length (blocks_of octets))) (refusal 14)
    (λ all_fit says. (all_fit, cc))
    (λ _ says. absurd (cc))

pub walked_unfit : (octets : List ℕ) (n : ℕ) → refusal n ≡ walked octets → (every fits (blocks_of octets) ≡ false) × (n ≡ 14)
unfolding walked
walked_unfit octets n =
    either_way (λ (w : Walked). refusal n ≡ w → (every fits (blocks_of octets) ≡ false) × (n ≡ 14)) (every fits (blocks_of octets)) (blocks (length (blocks_of octets))) (refusal 14)
    (λ _ says. absurd (cc))
    (λ unfit says. (unfit, cc))

pub walked_well : (octets : List ℕ) (w : Result ℕ Refusal) → says_walk w ≡ walked octets → is_ok w ≡ every fits (blocks_of octets)
walked_well octets (Ok n) says = sym (walked_count octets n says).0
walked_well octets (Err r) says = sym (walked_unfit octets (number r) says).0

-- a walk is known by what it says
abbrev saying : Walked → Result ℕ Refusal
saying (blocks n) = Ok n
saying (refusal n) = Err (named n)

said : (w : Result ℕ Refusal) → saying (says_walk w) ≡ w
said (Ok n) = refl
said (Err r) = ap Err (named_number r)

pub says_walk_injective : (v w : Result ℕ Refusal) → says_walk v ≡ says_walk w → v ≡ w
says_walk_injective v w same = sym (said v) ∙ ap saying same ∙ said w
