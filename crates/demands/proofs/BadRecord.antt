-- A record is bad exactly where document 01 says so: a set within 1 to 12 is an even number below the weight of item 13, and each test of a
-- record fails exactly where a line of `GoodRecord` holds.
-- Assumes nothing.
use Prim.Native.Nat.{ℕ, zero, suc, ◌<◌, ◌≤◌, ◌/◌, ◌%◌}
use native.Mathlib.Omega.{arith}
use mathlib.Core.Path.{◌≡◌, refl, sym, ◌∙◌}
use mathlib.Core.Bool.{Bool, true, false}
use mathlib.Core.List.{List, [], ◌∷◌}
use borrow.Author.Tests.{ltb-false, leb-true, leb-false, eqb-true, eqb-false, le-ltb, lt-leb, eq-eqb, ne_eqb}
use lib.Dec.{leb, eqb}
use lib.ListN.{length, get_or}
use Rattle.laws.specs.Logic.{when, either}
use Rattle.laws.proofs.Logic.{either_way, either_false, clash}
use Rattle.items.specs.Items.{in_set}
use Rattle.items.proofs.Bits.{first_item, set_within}
use Rattle.items.proofs.Sets.{past_set}
use Rattle.menus.specs.Pcm.{analogue, digital}
use Rattle.records.specs.declared.Modes.{Modes}
use Rattle.records.specs.declared.Record.{Record}
use Rattle.records.specs.Record.{no_modes, outside, lacks_item_1, bad_modes, any_bad, bad_flags, bad_record}
use Rattle.records.proofs.Good.{each_good, left_good, good_home, good_flags}
use Rattle.demands.specs.Joint.{filled_in}
use Rattle.demands.specs.BadRecord.{GoodModes, GoodRecord, RecordIsBadExactly}
use Rattle.demands.proofs.Joint.{available_used}

-- an even set below the weight of item 13 holds neither item 0 nor one from 13 on
not_first : (items i : ℕ) → items % 2 ≡ 0 → in_set items i ≡ true → 0 < i
not_first items zero even there = absurd (omega (arith, even, eqb-true (items % 2) 1 (sym (first_item items) ∙ there)))
not_first items (suc i) even there = omega arith

not_late : (items i : ℕ) → items < 8192 → in_set items i ≡ true → (late : Bool) → leb 13 i ≡ late → i < 13
not_late items i small there true late = clash (sym there ∙ past_set 13 items i small (leb-true 13 i late))
not_late items i small there false late = leb-false 13 i late

modes_good : (modes : Modes) → bad_modes modes ≡ false → GoodModes modes
unfolding in_set
modes_good modes good =
    let left = left_good modes good in
    let item_1 : (modes.pcm % 4 ≡ 0 → ⊥) → in_set modes.items 1 ≡ true = λ some. eq-eqb (modes.items / 2 % 2) 1 (left.item_1 some) in
    record {
      available = left.available;
      items = λ i there. (not_first modes.items i left.none there, omega (arith, not_late modes.items i left.items there (leb 13 i) refl));
      pcm = omega (arith, left.pcm);
      b5 = λ set. item_1 (λ none. omega (arith, set, none));
      b6 = λ set. item_1 (λ none. omega (arith, set, none));
    }

-- a set that holds neither is such a number: what is outside is not there
pub is_gone : (t : Bool) → (t ≡ true → ⊥) → t ≡ false
is_gone true gone = absurd (gone refl)
is_gone false gone = refl

none_outside : (modes : Modes) → GoodModes modes → outside modes.items ≡ false
unfolding either
none_outside modes good =
    let no-item-0 = sym (first_item modes.items) ∙ is_gone (in_set modes.items 0) (λ there. omega (arith, (good.items 0 there).0)) in
    let none-late = set_within 13 modes.items (λ i h. is_gone (in_set modes.items i) (λ there. omega (arith, h, (good.items i there).1))) in
    simp (no-item-0, lt-leb 8192 modes.items none-late)

-- one of b5 and b6 is set, where not both are 0
module _ (pcm items : ℕ) (b5 : analogue pcm ≡ 1 → in_set items 1 ≡ true) (b6 : digital pcm ≡ 1 → in_set items 1 ≡ true) where
  has_item_1 : (isAnalogue : Bool) → eqb (analogue pcm) 1 ≡ isAnalogue → (pcm % 4 ≡ 0 → ⊥) → in_set items 1 ≡ true
  has_item_1 true set some = b5 (eqb-true (analogue pcm) 1 set)
  has_item_1 false unset some = b6 (omega (arith, eqb-false (analogue pcm) 1 unset, some))

  no_lack : lacks_item_1 pcm items ≡ false
  unfolding in_set
  no_lack =
      either_way (λ (b : Bool). b ≡ false) (eqb (pcm % 4) 0) _ _ (λ _. refl)
      (λ some.
      let there = eqb-true (items / 2 % 2) 1 (has_item_1 (eqb (analogue pcm) 1) refl (eqb-false (pcm % 4) 0 some)) in
      ne_eqb (items / 2 % 2) 0 (λ none. omega (arith, there, none)))

modes_accepted : (modes : Modes) → GoodModes modes → bad_modes modes ≡ false
unfolding either
modes_accepted modes good =
    let item_1 = no_lack modes.pcm modes.items good.b5 good.b6 in
    simp (le-ltb 1 modes.available good.available, none_outside modes good, le-ltb 7 modes.pcm good.pcm, item_1)

none_bad : (functions : List Modes) → ((n : ℕ) → n < length functions → bad_modes (get_or functions n no_modes) ≡ false) → any_bad functions ≡ false
unfolding any_bad either
none_bad [] good = refl
none_bad (modes ∷ rest) good = simp (good 0 (omega arith), none_bad rest (λ n h. good (suc n) (omega (arith, h))))

record_good : (own : Record) → bad_record own ≡ false → GoodRecord own
record_good own good =
    let lapm = either_false _ _ (good_flags own good) in
    let access = either_false _ _ lapm.1 in
    let cellular = either_false _ _ access.1 in
    record {
      home = available_used own own.home ∙ eq-eqb _ 1 (good_home own good).0;
      functions = each;
      lapm = ltb-false 1 own.lapm lapm.0;
      access = ltb-false 1 own.access access.0;
      cellular = ltb-false 1 own.cellular cellular.0;
      digital = ltb-false 1 own.digital cellular.1;
    }
  where
    each : (function : ℕ) → 0 < function → function ≤ length own.functions → GoodModes (filled_in own function)
    each zero some h = absurd (omega (arith, some))
    each (suc n) some h = modes_good (get_or own.functions n no_modes) (each_good own.functions n (good_home own good).1)

flags_accepted : (own : Record) → GoodRecord own → bad_flags own ≡ false
unfolding either
flags_accepted own good = simp (le-ltb 1 own.lapm good.lapm, le-ltb 1 own.access good.access, le-ltb 1 own.cellular good.cellular, le-ltb 1 own.digital good.digital)

record_accepted : (own : Record) → GoodRecord own → bad_record own ≡ false
unfolding bad_record when either
record_accepted own good =
    let functions = none_bad own.functions (λ n h. modes_accepted (get_or own.functions n no_modes) (good.functions (suc n) (omega arith) h)) in
    simp (sym (available_used own own.home), good.home, flags_accepted own good, functions)

pub record_is_bad_exactly : RecordIsBadExactly
record_is_bad_exactly = record { good = record_good; accepted = record_accepted }
