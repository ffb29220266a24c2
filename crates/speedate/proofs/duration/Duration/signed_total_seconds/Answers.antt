use Rattle.std.proofs.Common.{rules}
use Rattle.speedate.proofs.duration.Duration.signed_total_seconds.Goals as goal

pub returns-clause-second : goal.returns-clause-second
returns-clause-second c = search rules
