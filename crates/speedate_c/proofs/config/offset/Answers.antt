use Rattle.std.proofs.Common.{rules}
use Rattle.speedate_c.proofs.config.offset.Goals as goal

pub returns-in-1 : goal.returns-in-1
returns-in-1 c = search rules
