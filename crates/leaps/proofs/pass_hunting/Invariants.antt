-- `leaps::pass_hunting` meets its contract. Invariant: hearing the bits from `from` on with the past that was given comes to what hearing
-- those behind the bits that were passed does with the past as it stands, since each of them left a hunting ear hunting (`goes_by`).
-- Assumes nothing.
use Rattle.std.proofs.Common.{ℕ, ◌<◌, ◌≡◌, ◌+◌, drop}
use Rattle.leaps.specs.Leaps.{advanced}
use Rattle.leaps.specs.Inner.{full}
use Rattle.leaps.proofs.pass_hunting.Given as goal

abbrev pub invariant-loop-passed : goal.invariant-loop-passed
invariant-loop-passed l = record {
  small : l.past < 4294967296;
  same : (len : ℕ) → advanced (full l.fn.past 0) len (drop l.from l.bits) l.from ≡ advanced (full l.past 0) len (drop (l.from + l.passed) l.bits) (l.from + l.passed);
}
