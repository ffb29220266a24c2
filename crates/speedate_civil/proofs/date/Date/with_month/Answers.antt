use Rattle.std.proofs.Common.{arith}
use Rattle.std.proofs.lemmas.Grind.{common_steps}
use Rattle.speedate_civil.proofs.date.Date.with_month.Goals as goal

pub returns-in_default-clause-answer : goal.returns-in_default-clause-answer
returns-in_default-clause-answer g c = grind (arith, common_steps)

pub returns-then-month-lt1-clause-answer : goal.returns-then-month-lt1-clause-answer
returns-then-month-lt1-clause-answer g c = grind (arith, common_steps)

pub returns-then-not-is_day-clause-answer : goal.returns-then-not-is_day-clause-answer
returns-then-not-is_day-clause-answer g c = grind (arith, common_steps)

pub returns-clause-answer : goal.returns-clause-answer
returns-clause-answer g c = grind (arith, common_steps)
