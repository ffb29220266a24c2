use Rattle.std.proofs.Common.{rules}
use Rattle.speedate_c.proofs.date.SpeedateDate.to_value.Goals as goal

pub returns : goal.returns
returns c = search rules
