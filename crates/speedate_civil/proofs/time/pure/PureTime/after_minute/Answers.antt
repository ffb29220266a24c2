use Rattle.std.proofs.Common.{arith}
use Rattle.std.proofs.lemmas.Grind.{common_steps}
use Rattle.speedate_civil.proofs.time.pure.PureTime.after_minute.Goals as goal

pub returns-then-not-has_decimal_mark-clause-answer
    : goal.returns-then-not-has_decimal_mark-clause-answer
returns-then-not-has_decimal_mark-clause-answer g c = grind (arith, common_steps)

pub returns-then-not-has_decimal_mark-clause-within
    : goal.returns-then-not-has_decimal_mark-clause-within
returns-then-not-has_decimal_mark-clause-within g c = grind (arith, common_steps)

pub returns-then-fraction-eq0-clause-answer : goal.returns-then-fraction-eq0-clause-answer
returns-then-fraction-eq0-clause-answer g c = grind (arith, common_steps)

pub returns-then-not-takes_digits-clause-answer : goal.returns-then-not-takes_digits-clause-answer
returns-then-not-takes_digits-clause-answer g c = grind (arith, common_steps)

pub returns-clause-answer : goal.returns-clause-answer
returns-clause-answer g c = grind (arith, common_steps)

pub returns-in-Faulty-clause-placed : goal.returns-in-Faulty-clause-placed
returns-in-Faulty-clause-placed g c = grind (arith, common_steps)

pub returns-then-second-gt59-clause-placed : goal.returns-then-second-gt59-clause-placed
returns-then-second-gt59-clause-placed g c = grind (arith, common_steps)

pub returns-then-fraction-eq0-clause-placed : goal.returns-then-fraction-eq0-clause-placed
returns-then-fraction-eq0-clause-placed g c = grind (arith, common_steps)

pub returns-then-not-takes_digits-clause-placed : goal.returns-then-not-takes_digits-clause-placed
returns-then-not-takes_digits-clause-placed g c = grind (arith, common_steps)
