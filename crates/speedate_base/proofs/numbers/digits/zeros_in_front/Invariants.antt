use Rattle.std.proofs.Common.{◌≡◌, ◌+◌, ◌*◌, drop}
use Rattle.speedate_base.specs.Digits.{zeros_length}
use Rattle.speedate_base.proofs.numbers.digits.zeros_in_front.Given as goal

abbrev pub invariant-loop-block : goal.invariant-loop-block
invariant-loop-block l = record {
  zeros : zeros_length l.bytes ≡ 16 * l.block + zeros_length (drop (16 * l.block) l.bytes);
}
