use Rattle.std.proofs.Common.{◌≡◌, ◌-◌, ◌%◌, ◌^◌, ◌≤◌, true, length, take, min}
use Rattle.std.specs.List.{list_all}
use Rattle.std.specs.Char.{is_ascii_digit}
use Rattle.speedate_base.specs.Digits.{digits_value}
use Rattle.speedate_base.proofs.numbers.digits.number_by_eights.Given as goal

abbrev pub invariant-loop-place : goal.invariant-loop-place
invariant-loop-place l = record {
  within : l.place ≤ length l.digits;
  whole : (length l.digits - l.place) % 8 ≡ 0;
  digits : list_all is_ascii_digit (take l.place l.digits) ≡ true;
  value : l.value ≡ min (digits_value (take l.place l.digits)) (2 ^ 64 - 1);
}

abbrev pub decreases-loop-place : goal.decreases-loop-place
decreases-loop-place l = length l.digits - l.place
