use Rattle.std.proofs.Common.{rules}
use Rattle.speedate_lines.proofs.outcome.outcome.Goals as goal

pub returns-in-Err-Write : goal.returns-in-Err-Write
returns-in-Err-Write c = search rules
