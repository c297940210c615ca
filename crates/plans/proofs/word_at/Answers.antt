-- `plans::word_at` meets its contract: behind the place stands the rest of the text, and in front of that the word.
-- Assumes nothing.
use Rattle.std.proofs.Common.{ℕ, ◌-◌, length, take, drop, ap, ◌∙◌}
use Rattle.std.proofs.lemmas.List.{take_rest}
use Rattle.plans.specs.Text.{word}
use Rattle.plans.proofs.Walk.{drop_within}
use Rattle.plans.proofs.word_at.Goals as goal

pub returns : goal.returns
returns c =
    let text = c.args.text.now in
    let from = c.min-from.result in
    let rest = take (length text - from) (drop from text) in
    ap (λ (n : ℕ). take n rest) c.word_length.ensures.0 ∙ ap word (take_rest text from ∙ drop_within text c.args.at from c.min-from.ensures)
