-- What a text says, its plain form says again: reading gives calls that can be made, and those are read back.
-- Assumes nothing.
use Rattle.std.proofs.Common.{replicate}
use Rattle.plans.specs.Reading.{marked, blocks_in, cm_in}
use Rattle.plans.specs.Good.{ReadsAgain}
use Rattle.plans.proofs.Kept.{plans_are_good}
use Rattle.plans.proofs.Marks.{marked_are_marks, zeros_are_marks, blocks_are_octets}
use Rattle.plans.proofs.ReadBack.{plain_reads_back}

pub reads_again : ReadsAgain
reads_again text plan right =
    let good = plans_are_good text plan right in
    plain_reads_back plan (cm_in text) (blocks_in text) (marked text (replicate 18000 0))
    good.0 good.1 (blocks_are_octets text) (marked_are_marks text (replicate 18000 0) zeros_are_marks)
