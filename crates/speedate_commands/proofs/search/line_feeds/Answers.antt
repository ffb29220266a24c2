use Rattle.std.proofs.Common.{ap, arith, length}
use Rattle.speedate.specs.Lines.{Pieces}
use Rattle.speedate.proofs.LineLemmas.{pieces-from, pieces-rest}
use Rattle.speedate_commands.proofs.search.line_feeds.Goals as goal

pub loop-end-preserved : goal.loop-end-preserved
loop-end-preserved c =
    let start = c.loop-end.start in
    let here = ap (λ (all : Pieces). length all.complete)
    (pieces-from c.args.block.now start start c.in-Some.end (omega arith)
    (λ k after below same. absurd (omega (arith, after, below))) c.in-Some.ensures.found) in
    record {
      inside = omega (arith, c.in-Some.ensures.found.within);
      fewer = omega (arith, c.loop-end.invariant.fewer, c.in-Some.ensures.found.after);
      counted = omega (arith, c.loop-end.invariant.counted, here);
    }

pub returns : goal.returns
returns c =
    let start = c.loop-end.start in
    let here = ap (λ (all : Pieces). length all.complete)
    (pieces-rest c.args.block.now start start
    (λ k after below same. absurd (omega (arith, after, below))) c.in_default.ensures.found) in
    omega (arith, c.loop-end.invariant.counted, here)
