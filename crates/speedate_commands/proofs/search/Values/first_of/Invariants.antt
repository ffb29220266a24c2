use Rattle.std.proofs.Common.{◌≡◌, ◌-◌, ◌≤◌, length, slice_index}
use Rattle.speedate.specs.Ascii.{line_feed}
use Rattle.speedate_commands.proofs.search.Values.first_of.Given as goal

-- a line begins at `start`
abbrev pub invariant-loop-end : goal.invariant-loop-end
invariant-loop-end l = record {
  some : 1 ≤ l.start;
  inside : l.start ≤ length l.block;
  begins : slice_index l.block (l.start - 1) ≡ line_feed;
}

abbrev pub decreases-loop-end : goal.decreases-loop-end
decreases-loop-end l = length l.block - l.start
