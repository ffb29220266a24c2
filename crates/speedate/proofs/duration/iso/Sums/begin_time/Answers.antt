use Rattle.std.proofs.Common.{rules}
use Rattle.speedate.proofs.duration.iso.Sums.begin_time.Goals as goal

pub returns : goal.returns
returns c = search rules
