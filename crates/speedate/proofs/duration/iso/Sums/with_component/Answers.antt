use Rattle.std.proofs.Common.{arith}
use Rattle.std.proofs.lemmas.Grind.{common_steps}
use Rattle.speedate.proofs.duration.iso.Sums.with_component.Goals as goal

pub slice_bounds-rest-count : goal.slice_bounds-rest-count
slice_bounds-rest-count g c = grind (arith, common_steps)

pub slice_bounds-rest-start : goal.slice_bounds-rest-start
slice_bounds-rest-start g c = grind (arith, common_steps)

pub overflow_add-start : goal.overflow_add-start
overflow_add-start g c = grind (arith, common_steps)

pub returns-in_default-clause-item : goal.returns-in_default-clause-item
returns-in_default-clause-item g c = grind (arith, common_steps)

pub returns-in_default-clause-placed : goal.returns-in_default-clause-placed
returns-in_default-clause-placed g c = grind (arith, common_steps)

pub returns-in_default-with_number-clause-item : goal.returns-in_default-with_number-clause-item
returns-in_default-with_number-clause-item g c = grind (arith, common_steps)

pub returns-clause-item : goal.returns-clause-item
returns-clause-item g c = grind (arith, common_steps)

pub returns-clause-within : goal.returns-clause-within
returns-clause-within g c = grind (arith, common_steps)
