use Rattle.std.proofs.Common.{arith}
use Rattle.std.proofs.lemmas.Grind.{common_steps}
use Rattle.speedate_base.proofs.DigitRunLemmas.{below-power, digits_value-next, one_more_digit}
use Rattle.speedate_base.proofs.numbers.digits.up_to_six_digits.Goals as goal

pub loop-value-preserved : goal.loop-value-preserved
loop-value-preserved c = grind (arith, one_more_digit, digits_value-next)

pub returns-clause-small : goal.returns-clause-small
returns-clause-small c = grind (arith, below-power 6 c.loop-value.size c.loop-value.value)

pub returns-then-size-eq-FEW-clause-answer : goal.returns-then-size-eq-FEW-clause-answer
returns-then-size-eq-FEW-clause-answer c = grind (arith, common_steps)

pub loop-value-smaller : goal.loop-value-smaller
loop-value-smaller c = grind (arith, common_steps)

pub returns-clause-answer : goal.returns-clause-answer
returns-clause-answer c = grind (arith, common_steps)
