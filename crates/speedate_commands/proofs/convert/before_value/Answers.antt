use Rattle.std.proofs.Common.{arith, sym}
use Rattle.speedate_scan.proofs.SeenLemmas.{length_before, seen_short}
use Rattle.speedate_commands.proofs.convert.before_value.Goals as goal

pub slice_bounds-result-end : goal.slice_bounds-result-end
slice_bounds-result-end c =
    sym (length_before c.args.head.now c.args.found.now.from c.requires.begins)

pub returns-clause-short : goal.returns-clause-short
returns-clause-short c =
    let size = length_before c.args.head.now c.args.found.now.from c.requires.begins in
    let most = seen_short c.args.head.now in
    omega (arith, c.requires.begins)
