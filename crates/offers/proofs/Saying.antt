-- What is made from a record that is not bad can be said in a menu, and so it is read back as it was meant: each number fits its place.
-- Assumes nothing.
use Prim.Native.Nat.{ℕ, ◌<◌, ◌%◌}
use native.Mathlib.Nat.{lt_of_le_of_lt}
use native.Mathlib.Omega.{arith}
use mathlib.Core.Path.{◌≡◌}
use mathlib.Core.Bool.{Bool, false}
use borrow.Author.Tests.{ltb-false}
use lib.Bits.{and_le_l}
use lib.Dec.{ltb, lit<}
use lib.ListN.{length}
use Rattle.laws.specs.Logic.{when}
use Rattle.laws.proofs.Logic.{either_way, either_false}
use Rattle.menus.specs.declared.Offer.{Offer}
use Rattle.records.specs.declared.Record.{Record}
use Rattle.records.specs.Record.{flag, in_use, bad_record}
use Rattle.records.proofs.Good.{good_home, good_modes, available_within}
use Rattle.offers.specs.Offering.{bit, with_item_0, access_options, cm_access, cm_offer, shared_items, jm_pcm, jm_access, jm_offer}
use Rattle.offers.proofs.Making.{bit_small, access_small, jm_pcm_small}
use Rattle.offers.proofs.Meaning.{Sayable}

-- item 0 beside a set of items
pub with_item_0_small : (there : Bool) (items : ℕ) → items < 8192 → with_item_0 there items < 8192
with_item_0_small there items h = omega (arith, h, bit_small there)

-- no access group, no options
no_options_lem : (there : Bool) (caller answerer digital : ℕ) → there ≡ false → access_options there caller answerer digital ≡ 0
unfolding when
no_options_lem there caller answerer digital e = simp e

module _ (own : Record) (six : length own.functions ≡ 6) (good : bad_record own ≡ false) where
  pub cm_sayable : (function : ℕ) → (in_use own function).available ≡ 1 → Sayable (cm_offer own function)
  cm_sayable function there =
      let modes = in_use own function in record {
        function = omega (arith, six, available_within own.functions function there);
        items = with_item_0_small (ltb 0 modes.pcm) modes.items (good_modes own good function).items;
        pcm = (good_modes own good function).pcm;
        options = access_small (cm_access own modes.pcm) (bit (flag own.cellular)) 0 (bit (flag own.digital)) (bit_small (flag own.cellular)) (lit< tt) (bit_small (flag own.digital));
        pcm_alone_lem = λ e. omega (arith, ltb-false 0 modes.pcm (either_false _ _ e).1);
        options_alone = λ e. no_options_lem (cm_access own modes.pcm) (bit (flag own.cellular)) 0 (bit (flag own.digital)) e;
      }

  pub jm_sayable : (cm : Offer) → cm.function < 8 → Sayable (jm_offer own cm)
  jm_sayable cm h =
      let modes = in_use own cm.function in record {
        function = either_way (λ (f : ℕ). f < 8) (flag modes.available) cm.function own.home (λ _. h) (λ _. omega (arith, six, available_within own.functions own.home (good_home own good).0));
        items = with_item_0_small (ltb 0 (jm_pcm modes cm)) (shared_items modes cm) (lt_of_le_of_lt (and_le_l modes.items cm.items) (good_modes own good cm.function).items);
        pcm = jm_pcm_small modes cm;
        options = access_small (jm_access own cm (jm_pcm modes cm)) (cm.access_options % 2) (bit (flag own.cellular)) (bit (flag own.digital)) (omega arith) (bit_small (flag own.cellular)) (bit_small (flag own.digital));
        pcm_alone_lem = λ e. omega (arith, ltb-false 0 (jm_pcm modes cm) (either_false _ _ (either_false _ _ e).1).1);
        options_alone = λ e. no_options_lem (jm_access own cm (jm_pcm modes cm)) _ _ _ e;
      }
