use Rattle.std.proofs.Common.{rules}
use Rattle.speedate_base.proofs.EightDigitsLemmas.{known, run-value}
use Rattle.speedate_base.proofs.numbers.fraction.Fraction.read_short.Goals as goal

pub returns-clause-microsecond : goal.returns-clause-microsecond
returns-clause-microsecond c = search (rules, known, run-value)
