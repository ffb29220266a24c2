use Rattle.std.proofs.Common.{◌≡◌, ◌+◌, ◌*◌}
use Rattle.speedate_base.specs.Digits.{run_length}
use Rattle.speedate_base.proofs.numbers.digits.long_run_end.Given as goal

abbrev pub invariant-loop-block : goal.invariant-loop-block
invariant-loop-block l = record {
  run : run_length l.bytes l.place
      ≡ 16 * l.block + run_length l.bytes (l.place + 16 * l.block);
}
