-- `choices::lowest_item` meets its contract: the first item that is found from 1 on.
-- Assumes nothing.
use Rattle.std.proofs.Common.{rules, tests, ◌≡◌, refl, sym, ap, ◌∙◌}
use Rattle.std.specs.Option.{option_map}
use lib.Dec.{lit<}
use Rattle.std.proofs.lemmas.Iterator.{YieldsList-from_range}
use Rattle.std.proofs.lemmas.Iterator.Search.{find_from_yields_List}
use Rattle.std.proofs.lemmas.Iterator.Adapters.{option_map_id}
use Rattle.items.specs.Items.{in_set}
use Rattle.choices.proofs.Lowest.{an_item, lowest_found}
use Rattle.choices.proofs.lowest_item.Goals as goal

pub returns : goal.returns
returns c =
    let found = find_from_yields_List (in_set c.args.items) _ _ c.find.result c.find.ensures.ran (YieldsList-from_range 1 13 12 refl refl) (λ x b q k. search (rules, tests)) in
    let mapped : c.map.result ≡ option_map an_item c.find.result = search rules in
    mapped ∙ ap (option_map an_item) (sym (option_map_id c.find.result) ∙ found) ∙ lowest_found c.args.items 1 12 (lit< tt)
