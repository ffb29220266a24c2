use Rattle.std.proofs.Common.{arith}
use Rattle.std.proofs.lemmas.Grind.{common_steps}
use Rattle.speedate.proofs.duration.days.days_at_front.Goals as goal

pub slice_bounds-starts_with-count : goal.slice_bounds-starts_with-count
slice_bounds-starts_with-count g c = grind (arith, common_steps)

pub slice_bounds-starts_with-start : goal.slice_bounds-starts_with-start
slice_bounds-starts_with-start g c = grind (arith, common_steps)

pub overflow_add-start : goal.overflow_add-start
overflow_add-start g c = grind (arith, common_steps)

pub overflow_add-ending : goal.overflow_add-ending
overflow_add-ending g c = grind (arith, common_steps)

pub slice_bounds-ending_size-count : goal.slice_bounds-ending_size-count
slice_bounds-ending_size-count g c = grind (arith, common_steps)

pub slice_bounds-ending_size-start : goal.slice_bounds-ending_size-start
slice_bounds-ending_size-start g c = grind (arith, common_steps)

pub returns-in_default-clause-answer : goal.returns-in_default-clause-answer
returns-in_default-clause-answer g c = grind (arith, common_steps)

pub overflow_add-gap : goal.overflow_add-gap
overflow_add-gap g c = grind (arith, common_steps)

pub slice_bounds-gap_size-count : goal.slice_bounds-gap_size-count
slice_bounds-gap_size-count g c = grind (arith, common_steps)

pub slice_bounds-gap_size-start : goal.slice_bounds-gap_size-start
slice_bounds-gap_size-start g c = grind (arith, common_steps)

pub overflow_add-result : goal.overflow_add-result
overflow_add-result g c = grind (arith, common_steps)

pub returns-clause-answer : goal.returns-clause-answer
returns-clause-answer g c = grind (arith, common_steps)

pub returns-clause-within : goal.returns-clause-within
returns-clause-within g c = grind (arith, common_steps)
