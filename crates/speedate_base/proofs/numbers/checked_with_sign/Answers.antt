use Rattle.std.proofs.Common.{rules}
use Rattle.speedate_base.proofs.numbers.checked_with_sign.Goals as goal

pub returns-then-size-2 : goal.returns-then-size-2
returns-then-size-2 c = search rules
