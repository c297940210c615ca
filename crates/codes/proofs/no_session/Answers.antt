-- `codes::no_session` meets its contract: its cadence is none.
-- Assumes nothing.
use Rattle.codes.proofs.no_session.Goals as goal

pub returns : goal.returns
returns c = simp c.no_cadence.ensures
