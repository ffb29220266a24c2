use Rattle.std.proofs.Common.{◌≡◌, ◌+◌, ◌^◌, ◌<◌, take}
use Rattle.speedate_base.specs.Digits.{digits_value, run_length}
use Rattle.speedate_base.proofs.numbers.digits.digit_by_digit.Given as goal

abbrev pub invariant-loop-place : goal.invariant-loop-place
invariant-loop-place l = record {
  run : run_length l.digits 0 ≡ l.place + run_length l.digits l.place;
  value : l.value ≡ digits_value (take l.place l.digits);
  small : l.value < 10 ^ l.place;
}
