-- `plans::read_byte` meets its contract: the byte decides, and a word is what stands there.
-- Assumes nothing.
use Rattle.std.proofs.Common.{sym, ap, ◌∙◌}
use Rattle.plans.specs.Reading.{read_word}
use Rattle.plans.proofs.Walk.{byte_ends, byte_reads, byte_passes}
use Rattle.plans.proofs.read_byte.Goals as goal

pub returns-then-b-eq-LINE_FEED : goal.returns-then-b-eq-LINE_FEED
returns-then-b-eq-LINE_FEED c =
    let args = c.args in
    c.finish_line.ensures ∙ sym (byte_ends args.text.now args.i c.requires args.r.now args.scan c.if-b-eq-LINE_FEED.true)

pub returns-then-begins_word : goal.returns-then-begins_word
returns-then-begins_word c =
    let args = c.args in
    c.read_word.ensures
    ∙ ap (read_word args.r.now) c.word_at.ensures
    ∙ sym (byte_reads args.text.now args.i c.requires args.r.now args.scan c.if-b-eq-LINE_FEED.false (sym c.begins_word.ensures ∙ c.if-begins_word.true))

pub returns-else-begins_word : goal.returns-else-begins_word
returns-else-begins_word c =
    let args = c.args in
    sym (byte_passes args.text.now args.i c.requires args.r.now args.scan c.if-b-eq-LINE_FEED.false (sym c.begins_word.ensures ∙ c.if-begins_word.false))
