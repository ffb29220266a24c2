use Rattle.std.proofs.Common.{arith}
use Rattle.speedate_base.proofs.NearestLemmas.{nearest_rules}
use Rattle.speedate_base.proofs.util.rounding.nearest_microseconds.Goals as goal

pub returns-then-negative-clause-nearest : goal.returns-then-negative-clause-nearest
returns-then-negative-clause-nearest c = grind (arith, nearest_rules)
