use Rattle.std.proofs.Common.{rules}
use Rattle.speedate_base.proofs.numbers.int_float.scaled_size.Goals as goal

pub returns : goal.returns
returns c = search rules
