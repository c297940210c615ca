-- `plans::put_plan` meets its contract: the parts of the plain form, one after the other. On which page the blocks are typed is searched for
-- and not named, so that a program that sets the place is judged by the place that it sets.
-- Assumes nothing.
use Rattle.std.proofs.Common.{◌≡◌, rules}
use Rattle.names.specs.Bytes.{bytes}
use Rattle.printing.specs.Page.{typed}
use Rattle.printing.proofs.Pages.{typed_then}
use Rattle.plans.specs.Plain.{octets_text, plain}
use Rattle.plans.proofs.put_plan.Goals as goal

pub returns : goal.returns
unfolding plain bytes
returns c =
    let blocks : c.put_octets.new.page ≡ typed c.put_told.new.page (octets_text (bytes "\nblocks   ") 0 c.args.blocks.now) = search rules in
    typed_then _ _ _ (typed_then _ _ _ (typed_then _ _ _ c.put_told.ensures blocks) c.put_damaged.ensures) c.put_text.ensures
