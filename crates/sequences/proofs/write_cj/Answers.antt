-- `sequences::write_cj` meets its contract: a buffer of fewer than 30 bytes has no room for CJ, and in any other the octet 0, written
-- three times as groups are, is CJ.
-- Assumes nothing.
use native.Mathlib.Omega.{arith}
use mathlib.Core.Path.{sym}
use Rattle.sequences.specs.Line.{cj}
use Rattle.sequences.proofs.Lines.{cj_length}
use Rattle.refusals.proofs.Outcomes.{meets_short, meets_put}
use Rattle.sequences.proofs.write_cj.Goals as goal

pub returns-then-out-lt-CJ_BITS : goal.returns-then-out-lt-CJ_BITS
unfolding cj
returns-then-out-lt-CJ_BITS c = meets_short cj c.args.out.now (omega (arith, cj_length))

pub returns : goal.returns
unfolding cj
returns c =
    meets_put cj c.args.out.now 30 c.write_groups.new.out (omega (arith, cj_length)) (sym cj_length) c.write_groups.ensures
