use Rattle.std.proofs.Common.{arith}
use Rattle.std.proofs.lemmas.Grind.{common_steps}
use Rattle.speedate.proofs.duration.iso.Sums.with_number.Goals as goal

pub fraction-requires-clause-digits : goal.fraction-requires-clause-digits
fraction-requires-clause-digits c = grind (arith, common_steps)

pub fraction-requires-clause-microseconds : goal.fraction-requires-clause-microseconds
fraction-requires-clause-microseconds c = grind (arith, common_steps)

pub overflow_add-day-2 : goal.overflow_add-day-2
overflow_add-day-2 c = grind (arith, common_steps)

pub returns-then-day-from : goal.returns-then-day-from
returns-then-day-from c = grind (arith, common_steps)

pub returns : goal.returns
returns c = grind (arith, common_steps)
