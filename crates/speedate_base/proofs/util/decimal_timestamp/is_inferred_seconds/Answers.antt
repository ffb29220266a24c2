use Rattle.std.proofs.Common.{arith}
use Rattle.speedate_base.proofs.DecimalLemmas.{inferred_rules}
use Rattle.speedate_base.proofs.util.decimal_timestamp.is_inferred_seconds.Goals as goal

pub returns-then-whole-eq-INFERRED_SECONDS_MAX : goal.returns-then-whole-eq-INFERRED_SECONDS_MAX
returns-then-whole-eq-INFERRED_SECONDS_MAX c = grind (arith, inferred_rules)
