use Rattle.std.proofs.Common.{rules}
use Rattle.speedate_base.proofs.util.unix_time.UnixTime.in_years.Goals as goal

pub returns-clause-answer : goal.returns-clause-answer
returns-clause-answer c = search rules
