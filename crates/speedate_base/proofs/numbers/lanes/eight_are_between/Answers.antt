use Rattle.std.proofs.Common.{ltb, List, ℕ, lit≤, w8}
use Rattle.std.proofs.lemmas.Simd.{tops_compared}
use lib.Lanes.{zip2}
use Rattle.speedate_base.proofs.BetweenLemmas.{between-lanes}
use Rattle.speedate_base.proofs.PatternLemmas.{less}
use Rattle.speedate_base.proofs.numbers.lanes.eight_are_between.Goals as goal

pub returns : goal.returns
returns c =
    let lanes = c.args.lanes in
    let lowest = c.args.lowest in
    let highest = c.args.highest in
    let most : List ℕ = zip2 less highest lowest in
    let above : List ℕ = zip2 less lanes lowest in
    record {
      between = rw (tops_compared w8 ltb most above)
          (between-lanes 8 lowest lanes highest (lit≤ tt) c.fits-lowest.0 c.fits-lanes.0
          c.fits-highest.0 c.fits-lanes.1 c.fits-highest.1 c.requires);
    }
