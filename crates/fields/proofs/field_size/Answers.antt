-- `fields::field_size` meets its contract: without octets there is no field.
-- Assumes nothing.
use native.Mathlib.Omega.{arith}
use mathlib.Core.Path.{sym, ap}
use lib.ListN.{length}
use Rattle.fields.proofs.Field.{field_none, field_length}
use Rattle.fields.proofs.field_size.Goals as goal

pub returns-then-octets-eq0 : goal.returns-then-octets-eq0
returns-then-octets-eq0 c = sym (ap length (field_none c.args.octets.now c.if-octets-eq0.true))

pub returns : goal.returns
returns c = omega (arith, c.extensions_for.ensures, field_length c.args.octets.now c.if-octets-eq0.false)
