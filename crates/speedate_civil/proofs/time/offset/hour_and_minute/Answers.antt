use Rattle.std.proofs.Common.{arith}
use Rattle.std.proofs.lemmas.Grind.{common_steps}
use Rattle.speedate_civil.proofs.time.offset.hour_and_minute.Goals as goal

pub returns-then-fits-ge5-clause-numbers : goal.returns-then-fits-ge5-clause-numbers
returns-then-fits-ge5-clause-numbers g c = grind (arith, common_steps)

pub returns-then-fits-gt2-clause-numbers : goal.returns-then-fits-gt2-clause-numbers
returns-then-fits-gt2-clause-numbers g c = grind (arith, common_steps)
