use Rattle.std.proofs.Common.{rules}
use Rattle.speedate_stream.proofs.watched.Watched.write.Goals as goal

pub returns-in-Ok-clause-progress : goal.returns-in-Ok-clause-progress
returns-in-Ok-clause-progress g c = search rules
