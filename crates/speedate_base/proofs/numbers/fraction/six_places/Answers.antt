use Rattle.std.proofs.Common.{arith}
use Rattle.std.proofs.lemmas.Grind.{common_steps}
use Rattle.speedate_base.proofs.numbers.fraction.six_places.Goals as goal

pub returns-clause-microsecond : goal.returns-clause-microsecond
returns-clause-microsecond c = grind (arith, common_steps)
