use Rattle.std.proofs.Common.{arith}
use Rattle.std.proofs.lemmas.Bool.Decides.{nat_tests}
use Rattle.speedate_base.proofs.DigitRunLemmas.{run-whole}
use Rattle.speedate_base.proofs.numbers.int_float.are_digits.Goals as goal

pub returns : goal.returns
returns c = grind (arith, nat_tests, run-whole c.args.bytes.now)
