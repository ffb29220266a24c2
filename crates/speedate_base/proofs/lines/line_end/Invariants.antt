use Rattle.std.proofs.Common.{◌-◌, ◌≤◌, length}
use Rattle.speedate_base.specs.Lines.{IsOneLine}
use Rattle.speedate_base.proofs.lines.line_end.Given as goal

abbrev pub invariant-loop-place : goal.invariant-loop-place
invariant-loop-place l = record {
  after : l.from ≤ l.place;
  within : l.place ≤ length l.text;
  one_line : IsOneLine l.text l.from l.place;
}

abbrev pub decreases-loop-place : goal.decreases-loop-place
decreases-loop-place l = length l.text - l.place
