use Rattle.std.proofs.Common.{rules}
use Rattle.speedate_c.proofs.time.SpeedateTime.from_value.Goals as goal

pub returns-clause-numbers : goal.returns-clause-numbers
returns-clause-numbers c = search rules
