-- The first item that is found from one on is the lowest from there on.
-- Assumes nothing.
use Rattle.std.specs.Prelude.{Some}
use Rattle.std.specs.List.{range_with_len, find}
use Rattle.std.specs.Option.{option_map}
use Prim.Native.Nat.{ℕ, zero, suc, ◌<◌, ◌+◌, ◌-◌}
use native.Mathlib.Omega.{arith}
use mathlib.Core.Path.{◌≡◌, refl, ap, ◌∙◌}
use mathlib.Core.Bool.{Bool, true, false, cond}
use Rattle.laws.specs.Logic.{when}
use Rattle.items.specs.declared.Item.{Item}
use Rattle.items.specs.Items.{in_set}
use Rattle.choices.specs.Choosing.{lowest_from}
use Rattle.choices.specs.Inner.{item_of}

abbrev pub an_item : ℕ → Item
an_item i = record { 0 = i }

-- item 0 is never looked for
pub lowest_found : (items i n : ℕ) → 0 < i → option_map an_item (find (in_set items) (range_with_len i n)) ≡ item_of (lowest_from items i n)
unfolding lowest_from when
lowest_found items i zero some = refl
lowest_found items zero (suc n) some = absurd (omega (arith, some))
lowest_found items (suc before) (suc n) some = go (in_set items (suc before)) (lowest_found items (suc before + 1) n (omega arith))
  where
    go : (there : Bool) → option_map an_item (find (in_set items) (range_with_len (suc before + 1) n)) ≡ item_of (lowest_from items (suc before + 1) n)
        → option_map an_item (cond there (Some (suc before)) (find (in_set items) (range_with_len (suc before + 1) n))) ≡ item_of (when there (suc before) (lowest_from items (suc before + 1) n))
    go true behind = refl
    go false behind = behind

-- one item at a time: it is item i, or it stands behind i, or there is none
module _ (items i : ℕ) (h : i < 13) where
  more : lowest_from items i (13 - i) ≡ lowest_from items i (suc (13 - (i + 1)))
  more = ap (λ (n : ℕ). lowest_from items i n) (omega (arith, h))

  pub lowest_here : in_set items i ≡ true → lowest_from items i (13 - i) ≡ i
  unfolding lowest_from when
  lowest_here t = more ∙ simp t

  pub lowest_on : in_set items i ≡ false → lowest_from items i (13 - i) ≡ lowest_from items (i + 1) (13 - (i + 1))
  unfolding lowest_from when
  lowest_on t = more ∙ simp t

pub lowest_none : (items i : ℕ) → i ≡ 13 → lowest_from items i (13 - i) ≡ 0
unfolding lowest_from
lowest_none items i e = simp e
