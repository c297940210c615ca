-- Octets are packed five bits at a time: one more octet is held where fewer bits are, and the last extension octet may take fewer.
-- Assumes nothing.
use Prim.Native.Nat.{ℕ, zero, suc, ◌+◌, ◌*◌, ◌/◌, ◌%◌, ◌^◌, ◌<◌, ◌≤◌}
use native.Mathlib.Nat.{not-suc-le-zero, le_of_suc-le-suc}
use native.Mathlib.Omega.{arith}
use mathlib.Core.Path.{◌≡◌, refl, ap, ◌∙◌}
use mathlib.Core.List.{List, [], ◌∷◌, map}
use borrow.Author.Tests.{leb-true, leb-false}
use lib.Dec.{leb}
use lib.ListN.{length, get_or}
use Rattle.laws.proofs.Logic.{either_way}
use Rattle.fields.specs.declared.Held.{Held}
use Rattle.fields.specs.Packing.{extension_of, joined_bits, groups_of, extensions_for, packed}
use Rattle.fields.specs.Inner.{held_with}
use Rattle.fields.proofs.Packing.{groups_length, group_at}
use Rattle.fields.proofs.Streams.{Streams, pull, emit, emitted, few, last}

-- what an extension octet takes: the five bits of its number; and where it is not the last, what is held then
pub record Five (octets : List ℕ) (k : ℕ) (more : Held) : Type 0 where
  pub bits : more.bits % 32 ≡ joined_bits 8 octets / 2 ^ (5 * k) % 32
  pub goes_on : k + 1 < extensions_for (length octets) → (8 * more.taken < 5 * (k + 1) + 8) × Streams 8 5 octets (more.bits / 32) (more.weight / 32) more.taken (k + 1)

module _ (octets : List ℕ) (held : Held) (k : ℕ) (at : Streams 8 5 octets held.bits held.weight held.taken k) (few_bits : 8 * held.taken < 5 * k + 8) where
  -- five bits are held
  held_five : 32 ≤ held.weight → Five octets k held
  held_five enough = record { bits = emitted 8 5 octets _ _ _ _ at enough; goes_on = λ _. (omega (arith, few_bits), emit 8 5 octets _ _ _ _ at enough) }

  -- one more octet is
  took_one : get_or octets held.taken 0 < 256 → held.weight < 32 → held.taken < length octets → Five octets k (record { bits = held.bits + held.weight * get_or octets held.taken 0; weight = held.weight * 256; taken = held.taken + 1 })
  took_one octet light there =
      let pulled = pull 8 5 octets _ _ _ _ at there octet in
      let enough : 32 ≤ held.weight * 256 = omega (arith, at.less) in
      record {
        bits = emitted 8 5 octets _ _ _ _ pulled enough;
        goes_on = λ _. (omega (arith, few 8 5 octets _ _ _ _ at light), emit 8 5 octets _ _ _ _ pulled enough);
      }

  -- and with no more octets what is left is taken
  took_last : held.weight < 32 → length octets ≤ held.taken → Five octets k held
  took_last light over = record {
    bits = ap (λ (n : ℕ). n % 32) (last 8 5 octets _ _ _ _ at over);
    goes_on = λ (h : k + 1 < extensions_for (length octets)). absurd (let z : ⊥ = omega (arith, h, over, few 8 5 octets _ _ _ _ at light) in z);
  }

  pub next_five : get_or octets held.taken 0 < 256 → Five octets k (held_with octets held)
  next_five octet =
      either_way (Five octets k) (leb 32 held.weight) held _
      (λ enough. held_five (leb-true 32 held.weight enough))
      (λ light.
      let low = leb-false 32 held.weight light in
      either_way (Five octets k) (leb (length octets) held.taken) held _
      (λ over. took_last low (leb-true (length octets) held.taken over))
      (λ there. took_one octet low (leb-false (length octets) held.taken there)))

-- the extension octet of a number
mapped_at : (f : ℕ → ℕ) (xs : List ℕ) (k : ℕ) → k < length xs → get_or (map f xs) k 0 ≡ f (get_or xs k 0)
mapped_at f [] k h = absurd (not-suc-le-zero h)
mapped_at f (x ∷ xs) zero h = refl
mapped_at f (x ∷ xs) (suc k) h = mapped_at f xs k (le_of_suc-le-suc h)

pub packed_at : (octets : List ℕ) (k : ℕ) → k < extensions_for (length octets) → get_or (packed octets) k 0 ≡ extension_of (joined_bits 8 octets / 2 ^ (5 * k) % 32)
unfolding packed
packed_at octets k h =
    let size = extensions_for (length octets) in
    let bits = joined_bits 8 octets in
    mapped_at extension_of (groups_of 5 size bits) k (rw (groups_length 5 size bits) h) ∙ ap extension_of (group_at 5 size bits k h)
