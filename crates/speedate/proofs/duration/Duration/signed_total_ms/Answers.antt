use Rattle.std.proofs.Common.{rules}
use Rattle.speedate.proofs.duration.Duration.signed_total_ms.Goals as goal

pub returns : goal.returns
returns c = search rules
