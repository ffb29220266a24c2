use Rattle.std.proofs.Common.{arith, rules}
use Rattle.speedate_scan.proofs.RunLemmas.{run_begins, run_ends, run_goes_on, run_to_end}
use Rattle.speedate_scan.proofs.duration_place.length_to_end.Goals as goal

pub loop-place-init : goal.loop-place-init
loop-place-init c = run_begins c.args.text.now

pub returns-then-ends_duration-clause-length : goal.returns-then-ends_duration-clause-length
returns-then-ends_duration-clause-length c =
    run_ends c.args.text.now c.loop-place.place c.loop-place.invariant (omega arith) (search rules)

pub loop-place-preserved : goal.loop-place-preserved
loop-place-preserved c =
    run_goes_on c.args.text.now c.loop-place.place c.loop-place.invariant (omega arith)
    (search rules)

pub returns-clause-length : goal.returns-clause-length
returns-clause-length c =
    run_to_end c.args.text.now c.loop-place.place c.loop-place.invariant (omega arith)
