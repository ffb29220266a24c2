use Rattle.std.proofs.Common.{rules}
use Rattle.speedate_base.proofs.BlockLemmas.{prefix_on}
use Rattle.speedate_base.proofs.numbers.digits.zeros_in_front.Goals as goal

pub loop-block-preserved : goal.loop-block-preserved
loop-block-preserved c = search (rules, prefix_on)
