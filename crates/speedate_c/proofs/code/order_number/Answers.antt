use Rattle.std.proofs.Common.{rules}
use Rattle.speedate_c.proofs.code.order_number.Goals as goal

pub returns-in-Less : goal.returns-in-Less
returns-in-Less c = search rules
