use Rattle.std.proofs.Common.{◌≡◌, ◌+◌, ◌-◌, ◌≤◌, length, drop}
use Rattle.speedate.specs.Lines.{complete_lines}
use Rattle.speedate_commands.proofs.search.line_feeds.Given as goal

-- the line feeds so far, and those from `start` on
abbrev pub invariant-loop-end : goal.invariant-loop-end
invariant-loop-end l = record {
  inside : l.start ≤ length l.block;
  fewer : l.count ≤ l.start;
  counted : length (complete_lines l.block)
      ≡ l.count + length (complete_lines (drop l.start l.block));
}

abbrev pub decreases-loop-end : goal.decreases-loop-end
decreases-loop-end l = length l.block - l.start
