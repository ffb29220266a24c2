use Rattle.std.proofs.Common.{arith}
use Rattle.std.proofs.lemmas.Grind.{common_steps}
use Rattle.speedate_base.proofs.ScaledLemmas.{scaled_rules}
use Rattle.speedate_base.proofs.numbers.int_float.Decimal.scaled.Goals as goal

pub digits_number-requires : goal.digits_number-requires
digits_number-requires c = grind (arith, common_steps)

pub returns : goal.returns
returns c = grind (arith, scaled_rules)
