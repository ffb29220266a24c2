use Rattle.std.proofs.Common.{arith}
use Rattle.std.proofs.lemmas.Grind.{common_steps}
use Rattle.speedate.proofs.duration.text.push_counted.Goals as goal

pub push_number-requires : goal.push_number-requires
push_number-requires g c = grind (arith, common_steps)

pub push-requires : goal.push-requires
push-requires g c = grind (arith, common_steps)

pub returns-then-number-ne0-clause-text : goal.returns-then-number-ne0-clause-text
returns-then-number-ne0-clause-text g c = grind (arith, common_steps)

pub returns-then-number-ne0-clause-length : goal.returns-then-number-ne0-clause-length
returns-then-number-ne0-clause-length g c = grind (arith, common_steps)
