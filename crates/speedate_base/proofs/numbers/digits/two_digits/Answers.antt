use Rattle.std.proofs.Common.{rules}
use Rattle.speedate_base.proofs.numbers.digits.two_digits.Goals as goal

pub returns : goal.returns
returns c = search rules
