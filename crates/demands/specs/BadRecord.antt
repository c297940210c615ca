-- Document 01, 'Menus we make': which records are bad, exactly.
use Rattle.std.specs.Prelude.{ℕ, ◌<◌, ◌≤◌, ◌≡◌, true, false, length}
use Rattle.items.specs.Items.{in_set}
use Rattle.menus.specs.Pcm.{analogue, digital}
use Rattle.records.specs.declared.Modes.{Modes}
use Rattle.records.specs.declared.Record.{Record}
use Rattle.records.specs.Record.{bad_record}
use Rattle.demands.specs.Joint.{filled_in, is_available}

-- one function: "available or not, a set of items from 1 to 12, PCM options 0 to 7"
pub record GoodModes (modes : Modes) : Type 0 where
  -- 1 for yes, 0 for no
  pub available : modes.available ≤ 1
  -- a set is bad where it "holds anything outside 1 to 12"
  pub items : (i : ℕ) → in_set modes.items i ≡ true → (0 < i) × (i < 13)
  -- bad are those that "exceed 7"
  pub pcm : modes.pcm ≤ 7
  -- bad is where "PCM b5 or b6 is set without item 1 in the same function"
  pub b5 : analogue modes.pcm ≡ 1 → in_set modes.items 1 ≡ true
  pub b6 : digital modes.pcm ≡ 1 → in_set modes.items 1 ≡ true

-- a whole record, of any number of functions
pub record GoodRecord (own : Record) : Type 0 where
  -- bad is where "the home function isn't an available one"
  pub home : is_available own own.home ≡ true
  -- "All six functions are tested", those not available too
  pub functions : (function : ℕ) → 0 < function → function ≤ length own.functions → GoodModes (filled_in own function)
  -- "LAPM wanted, access wanted, cellular, digital": 1 for yes, 0 for no
  pub lapm : own.lapm ≤ 1
  pub access : own.access ≤ 1
  pub cellular : own.cellular ≤ 1
  pub digital : own.digital ≤ 1

-- "It is bad (10) if" one of these fails, and only then
pub record RecordIsBadExactly : Type 0 where
  pub good : (own : Record) → bad_record own ≡ false → GoodRecord own
  pub accepted : (own : Record) → GoodRecord own → bad_record own ≡ false
