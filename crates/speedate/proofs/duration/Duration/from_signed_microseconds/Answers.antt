use Rattle.std.proofs.Common.{rules}
use Rattle.speedate.proofs.duration.Duration.from_signed_microseconds.Goals as goal

pub returns-then-day-from-clause-answer : goal.returns-then-day-from-clause-answer
returns-then-day-from-clause-answer c = search rules
