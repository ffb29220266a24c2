use Rattle.std.proofs.Common.{◌≡◌, ◌+◌, ◌-◌, ◌^◌, ◌<◌, ◌≤◌, length, take}
use Rattle.speedate_base.specs.Digits.{digits_value, run_length}
use Rattle.speedate_base.proofs.numbers.digits.up_to_six_digits.Given as goal

abbrev pub invariant-loop-value : goal.invariant-loop-value
invariant-loop-value l = record {
  within : l.size ≤ length l.bytes;
  few : l.size ≤ 6;
  run : run_length l.bytes 0 ≡ l.size + run_length l.bytes l.size;
  value : l.value ≡ digits_value (take l.size l.bytes);
  small : l.value < 10 ^ l.size;
}

abbrev pub decreases-loop-value : goal.decreases-loop-value
decreases-loop-value l = length l.bytes - l.size
