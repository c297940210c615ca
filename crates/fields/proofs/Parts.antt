-- What the parts of a block are, where every block fits: the octets of that block itself, since what stands behind a block has no part in it.
-- Assumes nothing.
use Prim.Native.Nat.{ℕ, suc, ◌<◌, ◌≤◌, ◌+◌, ◌-◌}
use native.Mathlib.Omega.{arith}
use mathlib.Core.Path.{◌≡◌, sym, ap, subst, ◌∙◌}
use mathlib.Core.Bool.{true}
use mathlib.Core.List.{List, [], ◌++◌}
use lib.ListN.{length, take, drop, get_or, length-drop}
use lib.Seq.{take_all, take-append-le, drop-append-le, drop-drop}
use Rattle.laws.specs.Joined.{joined}
use Rattle.laws.specs.Tests.{every}
use Rattle.fields.specs.declared.Block.{Block}
use Rattle.fields.specs.Blocks.{blocks_of, length_of, country_size, provider_size, codes_size, fits, place_of, block_of, part_in}
use Rattle.fields.proofs.Blocks.{laid, block_fits, fits_parts, every_at, place_begins, block_at_place, place_whole}
use Rattle.fields.proofs.Reading.{found_there}

-- the parts of a block, by the block alone
pub record PartsOf (block octets : List ℕ) (found : Block) : Type 0 where
  pub whole : part_in octets found.whole ≡ block
  pub country : part_in octets found.country ≡ take (country_size block) (drop 1 block)
  pub provider : part_in octets found.provider ≡ take (provider_size block) (drop (1 + country_size block + 1) block)
  pub rest : part_in octets found.rest ≡ drop (1 + codes_size block) block

module _ (octets block others : List ℕ) (place : ℕ) (begins : drop place octets ≡ block ++ others) where
  -- a part of the octets that lies in the block is a part of the block
  part_of_block : (at from size : ℕ) → at ≡ place + from → from + size ≤ length block → take size (drop at octets) ≡ take size (drop from block)
  part_of_block at from size is_at inside =
      ap (λ (k : ℕ). take size (drop k octets)) is_at ∙ ap (take size) (sym (drop-drop from place octets) ∙ ap (drop from) begins ∙ drop-append-le from block others (omega arith)) ∙ take-append-le size (drop from block) others (omega (arith, length-drop from block))

  laid_parts : fits block ≡ true → length block ≡ 1 + length_of block → PartsOf block octets (laid place (length_of block) (country_size block) (provider_size block))
  laid_parts fit all =
      let room = fits_parts block fit in
      let size = length_of block in
      let country = country_size block in
      let provider = provider_size block in
      let codes = country + 1 + provider in
      record {
        whole = part_of_block place 0 (1 + size) (omega arith) (omega arith) ∙ take_all (1 + size) block (omega arith);
        country = part_of_block (place + 1) 1 country (omega arith) (omega arith);
        provider = part_of_block (place + 1 + country + 1) (1 + country + 1) provider (omega arith) (omega arith);
        rest = part_of_block (place + 1 + codes) (1 + codes) (size - codes) (omega arith) (omega arith) ∙ take_all (size - codes) (drop (1 + codes) block) (omega (arith, length-drop (1 + codes) block));
      }

pub parts_of : (octets : List ℕ) (k : ℕ) → every fits (blocks_of octets) ≡ true → k < length (blocks_of octets) → PartsOf (get_or (blocks_of octets) k []) octets (block_of octets k)
parts_of octets k all_fit inside =
    let block = get_or (blocks_of octets) k [] in
    let place = place_of octets k in
    let fit = every_at fits (blocks_of octets) k [] all_fit inside in
    let is-laid = sym (block_fits place block fit) ∙ sym (block_at_place octets k inside) ∙ found_there octets k all_fit inside in
    subst (PartsOf block octets) is-laid (laid_parts octets block (joined (drop (suc k) (blocks_of octets))) place (place_begins octets k inside) fit (place_whole octets k inside all_fit))
