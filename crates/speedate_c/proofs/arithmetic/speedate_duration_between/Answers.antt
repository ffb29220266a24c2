use Rattle.std.proofs.Common.{rules}
use Rattle.speedate_c.proofs.arithmetic.speedate_duration_between.Goals as goal

pub returns : goal.returns
returns c = search rules
