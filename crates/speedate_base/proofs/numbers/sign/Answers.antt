use Rattle.std.proofs.Common.{rules}
use Rattle.speedate_base.proofs.numbers.sign.Goals as goal

pub returns-in-43-clause-length : goal.returns-in-43-clause-length
returns-in-43-clause-length c = search rules
