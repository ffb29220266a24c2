use Rattle.std.proofs.Common.{◌≡◌, ◌≤◌, ◌*◌, take, unsigned_abs}
use Rattle.speedate.specs.Duration.{duration_numbers, amount_sum, sum_microseconds}
use Rattle.speedate.proofs.duration.Duration.sum.Given as goal

abbrev pub invariant-loop-duration : goal.invariant-loop-duration
invariant-loop-duration l = record {
  sum : sum_microseconds l.sum ≡ amount_sum duration_numbers (take l.duration-index l.durations);
  seconds : unsigned_abs l.sum.seconds ≤ 86400000000000 * l.duration-index;
  microseconds : unsigned_abs l.sum.microseconds ≤ 999999 * l.duration-index;
}
