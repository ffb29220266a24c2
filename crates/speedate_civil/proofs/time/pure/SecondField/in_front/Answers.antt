use Rattle.std.proofs.Common.{rules}
use Rattle.speedate_civil.proofs.time.pure.SecondField.in_front.Goals as goal

pub returns-in-5-to-max : goal.returns-in-5-to-max
returns-in-5-to-max c = search rules
