-- `plans::functions_of` meets its contract: at each place stand the modes of its function.
-- Assumes nothing.
use Rattle.std.proofs.Common.{◌≡◌, ℕ, zero, suc, ◌<◌, length, get_or, lit<, arith, rules}
use Rattle.std.proofs.lemmas.List.{same_lists}
use Rattle.records.specs.declared.Modes.{Modes}
use Rattle.plans.specs.Reading.{record_of}
use Rattle.plans.proofs.functions_of.Goals as goal

pub returns : goal.returns
unfolding record_of
returns c = same_lists _ _ c.map.ensures.items.long each
  where
    each : (k : ℕ) (d : Modes) → k < length c.map.result → get_or c.map.result k d ≡ get_or (record_of c.args.plan c.args.end).functions k d
    each zero d h = let it = c.map.ensures.items.at 0 0 d (lit< tt) in search (rules, it)
    each (suc zero) d h = let it = c.map.ensures.items.at 1 0 d (lit< tt) in search (rules, it)
    each (suc (suc zero)) d h = let it = c.map.ensures.items.at 2 0 d (lit< tt) in search (rules, it)
    each (suc (suc (suc zero))) d h = let it = c.map.ensures.items.at 3 0 d (lit< tt) in search (rules, it)
    each (suc (suc (suc (suc zero)))) d h = let it = c.map.ensures.items.at 4 0 d (lit< tt) in search (rules, it)
    each (suc (suc (suc (suc (suc zero))))) d h = let it = c.map.ensures.items.at 5 0 d (lit< tt) in search (rules, it)
    each (suc (suc (suc (suc (suc (suc k)))))) d h = absurd (omega (arith, h, c.map.ensures.items.long))
