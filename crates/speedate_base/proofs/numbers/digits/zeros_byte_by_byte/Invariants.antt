use Rattle.std.proofs.Common.{◌≡◌, ◌+◌, ◌-◌, ◌≤◌, length, drop}
use Rattle.speedate_base.specs.Digits.{zeros_length}
use Rattle.speedate_base.proofs.numbers.digits.zeros_byte_by_byte.Given as goal

abbrev pub invariant-loop-count : goal.invariant-loop-count
invariant-loop-count l = record {
  within : l.count ≤ length l.bytes;
  zeros : zeros_length l.bytes ≡ l.count + zeros_length (drop l.count l.bytes);
}

abbrev pub decreases-loop-count : goal.decreases-loop-count
decreases-loop-count l = length l.bytes - l.count
