use Rattle.std.proofs.Common.{arith}
use Rattle.std.proofs.lemmas.Grind.{common_steps}
use Rattle.speedate_base.proofs.numbers.lanes.digits_in_front.Goals as goal

pub returns : goal.returns
returns c = grind (arith, common_steps)
