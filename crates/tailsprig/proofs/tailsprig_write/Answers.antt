-- `tailsprig::tailsprig_write` meets its contract: whether the number asks for a kind decides; then what `write` answers is told as its
-- number, from which nothing is cut off (`written_whole`), and the buffer is as it left it.
-- Assumes nothing.
use mathlib.Core.Path.{sym, ◌∙◌}
use Rattle.tailsprig.proofs.Counts.{written_whole, returns_as}
use borrow.Author.Rules.{rules}
use Rattle.tailsprig.proofs.tailsprig_write.Goals as goal

pub returns : goal.returns
returns c =
    let known = sym c.kind_of.ensures ∙ c.in-Some.is in
    let given = c.args in
    rw known (returns_as _ c.write.result c.write.new.out c.wrote_code.result (written_whole _ given.octets.now given.copies given.out.now (search rules)) c.write.ensures c.wrote_code.type_inv c.wrote_code.ensures)
