use Rattle.std.proofs.Common.{◌+◌, ◌*◌, arith}
use Rattle.std.proofs.lemmas.Bool.Decides.{nat_tests}
use Rattle.speedate_base.proofs.BlockLemmas.{prefix_on, run_ends}
use Rattle.speedate_base.proofs.numbers.digits.long_run_end.Goals as goal

pub loop-block-preserved : goal.loop-block-preserved
loop-block-preserved c = grind (arith, nat_tests, prefix_on)

pub returns-in-Some-clause-end : goal.returns-in-Some-clause-end
returns-in-Some-clause-end c =
    let start = c.args.place + 16 * c.loop-block.block in
    omega (arith, run_ends c.args.bytes.now start (omega arith) c.in-Some.ensures.count)
