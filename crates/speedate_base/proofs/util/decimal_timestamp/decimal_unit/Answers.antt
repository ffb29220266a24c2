use Rattle.std.proofs.Common.{rules}
use Rattle.speedate_base.proofs.util.decimal_timestamp.decimal_unit.Goals as goal

pub returns : goal.returns
returns c = search rules
