use Rattle.std.proofs.Common.{arith}
use Rattle.std.proofs.lemmas.Grind.{common_steps}
use Rattle.speedate_uses.proofs.schedule.next_short_multiple.Goals as goal

pub nonzero_div-max : goal.nonzero_div-max
nonzero_div-max c = grind (arith, common_steps)

pub overflow_add-result : goal.overflow_add-result
overflow_add-result c = grind (arith, common_steps)

pub overflow_mul-result : goal.overflow_mul-result
overflow_mul-result c = grind (arith, common_steps)

pub returns : goal.returns
returns c = grind (arith, common_steps)
