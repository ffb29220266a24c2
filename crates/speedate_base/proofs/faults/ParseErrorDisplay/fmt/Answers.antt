use Rattle.std.proofs.Common.{rules}
use Rattle.speedate_base.proofs.faults.ParseErrorDisplay.fmt.Goals as goal

pub returns-clause-writes : goal.returns-clause-writes
returns-clause-writes g c = search rules
