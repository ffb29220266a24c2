use Rattle.std.proofs.Common.{◌≡◌, ◌≤◌, ◌*◌, pos, drop, unsigned_abs}
use Rattle.speedate.specs.Duration.{sum_microseconds}
use Rattle.speedate_c.specs.Duration.{sum_after}
use Rattle.speedate_c.proofs.arithmetic.sum_of.Given as goal

-- the sum so far and the durations that are left have the whole sum
abbrev pub invariant-loop-duration : goal.invariant-loop-duration
invariant-loop-duration l = record {
  sum : sum_after (pos 0) l.durations
      ≡ sum_after (sum_microseconds l.sum) (drop l.duration-index l.durations);
  seconds : unsigned_abs l.sum.seconds ≤ 86400000000000 * l.duration-index;
  microseconds : unsigned_abs l.sum.microseconds ≤ 999999 * l.duration-index;
}
