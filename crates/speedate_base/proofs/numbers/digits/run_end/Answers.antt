use Rattle.std.proofs.Common.{arith}
use Rattle.std.proofs.lemmas.Grind.{common_steps}
use Rattle.speedate_base.proofs.BlockLemmas.{block_on}
use Rattle.speedate_base.proofs.numbers.digits.run_end.Goals as goal

pub loop-end-preserved : goal.loop-end-preserved
loop-end-preserved c = grind (arith, block_on)

pub returns-then-not-is_ascii_digit-clause-end : goal.returns-then-not-is_ascii_digit-clause-end
returns-then-not-is_ascii_digit-clause-end c = grind (arith, common_steps)

pub loop-end-preserved-then-bytes-end-lt-LANES : goal.loop-end-preserved-then-bytes-end-lt-LANES
loop-end-preserved-then-bytes-end-lt-LANES c = grind (arith, common_steps)

pub returns-then-count-lt-LANES-clause-end : goal.returns-then-count-lt-LANES-clause-end
returns-then-count-lt-LANES-clause-end c = grind (arith, common_steps)

pub returns-clause-end : goal.returns-clause-end
returns-clause-end c = grind (arith, common_steps)
