use Rattle.std.proofs.Common.{rules}
use Rattle.speedate_base.proofs.numbers.int_float.IntFloat.scaled.Goals as goal

pub returns-in-Int : goal.returns-in-Int
returns-in-Int c = search rules
