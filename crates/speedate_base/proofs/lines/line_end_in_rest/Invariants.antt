use Rattle.speedate_base.specs.Lines.{IsOneLine}
use Rattle.speedate_base.proofs.lines.line_end_in_rest.Given as goal

abbrev pub invariant-loop-place : goal.invariant-loop-place
invariant-loop-place l = IsOneLine l.text l.from l.place
