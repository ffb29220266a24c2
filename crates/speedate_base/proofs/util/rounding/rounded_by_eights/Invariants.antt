use Rattle.std.proofs.Common.{◌≡◌, ◌*◌, ◌%◌, ◌^◌, ◌≤◌, length, drop}
use Rattle.speedate_base.specs.Digits.{digits_value}
use Rattle.speedate_base.specs.Nearest.{quotient}
use Rattle.speedate_base.proofs.util.rounding.rounded_by_eights.Given as goal

abbrev pub invariant-loop-place : goal.invariant-loop-place
invariant-loop-place l = record {
  place : l.place ≤ length l.digits;
  whole : l.place % 8 ≡ 0;
  twice : l.twice ≡ quotient l.up (2 * (digits_value (drop l.place l.digits) * l.unit))
      (10 ^ length (drop l.place l.digits));
  within : l.twice ≤ 2 * l.unit;
}

abbrev pub decreases-loop-place : goal.decreases-loop-place
decreases-loop-place l = l.place
