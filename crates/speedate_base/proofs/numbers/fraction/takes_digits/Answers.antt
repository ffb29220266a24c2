use Rattle.std.proofs.Common.{rules}
use Rattle.speedate_base.proofs.numbers.fraction.takes_digits.Goals as goal

pub returns-in-Truncate : goal.returns-in-Truncate
returns-in-Truncate c = search rules
