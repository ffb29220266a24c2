use Rattle.std.proofs.Common.{rules}
use Rattle.speedate_base.proofs.numbers.int_float.Decimal.new.Goals as goal

pub returns-then-not-are_digits : goal.returns-then-not-are_digits
returns-then-not-are_digits c = search rules
