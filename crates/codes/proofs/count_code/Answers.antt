-- `codes::count_code` meets its contract: a rest below 2 ^ 31 is held by an i32 as it is.
-- Assumes nothing.
use native.Mathlib.Omega.{arith}
use Prim.Native.Nat.{◌%◌, ◌^◌}
use Rattle.codes.proofs.Codes.{read_back}
use Rattle.codes.proofs.count_code.Goals as goal

pub overflow_cast-result : goal.overflow_cast-result
overflow_cast-result c = record { sfits = omega arith }

pub returns : goal.returns
returns c = read_back (c.args.n % 2 ^ 31) (omega arith)
