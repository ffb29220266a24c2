use Rattle.std.proofs.Common.{arith}
use Rattle.std.proofs.lemmas.List.{take_rest}
use Rattle.speedate_base.proofs.ZeroLemmas.{zeros-left, zeros-value, zeros-large}
use Rattle.speedate_base.proofs.numbers.digits.without_zeros.Goals as goal

pub returns-clause-run : goal.returns-clause-run
returns-clause-run c = grind (arith, take_rest, zeros-left c.args.bytes.now)

pub returns-clause-value : goal.returns-clause-value
returns-clause-value c = grind (arith, take_rest, zeros-value c.args.bytes.now)

pub returns-clause-large : goal.returns-clause-large
returns-clause-large c = grind (arith, take_rest, zeros-large c.args.bytes.now)
