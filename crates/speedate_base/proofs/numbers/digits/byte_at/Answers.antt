use Rattle.std.proofs.Common.{arith}
use Rattle.std.proofs.lemmas.Grind.{common_steps}
use Rattle.speedate_base.proofs.numbers.digits.byte_at.Goals as goal

pub returns-else-place-bytes : goal.returns-else-place-bytes
returns-else-place-bytes c = grind (arith, common_steps)
