use Rattle.std.proofs.Common.{rules}
use Rattle.speedate.proofs.duration.Duration.from_microseconds.Goals as goal

pub returns : goal.returns
returns c = search rules
