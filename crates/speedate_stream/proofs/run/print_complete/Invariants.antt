use Rattle.std.proofs.Common.{◌≡◌, ◌-◌, ◌≤◌, ◌++◌, length, drop}
use Rattle.speedate_base.specs.Lines.{IsOneLine, complete_lines, unfinished_line}
use Rattle.speedate_stream.specs.Machine.{lines_output, state_after}
use Rattle.speedate_stream.specs.Run.{AppendsBut}
use Rattle.speedate_stream.proofs.run.print_complete.Given as goal

-- what waits and what is printed for the lines from `start` on are left to be written, and no line
-- feed stands from there up to `searched`
abbrev pub invariant-loop-end : goal.invariant-loop-end
invariant-loop-end g l = record {
  ordered : l.start ≤ l.searched;
  within : l.searched ≤ length l.text;
  one_line : IsOneLine l.text l.start l.searched;
  printed : AppendsBut (l.pending.items ++ lines_output g.M.LineMachine.machine l.machine
      (complete_lines (drop l.start l.text)))
      (g.W.Write.contents l.initial.output.inner) (g.W.Write.contents l.output.inner)
      (lines_output g.M.LineMachine.machine l.initial.machine (complete_lines l.text));
  failed : l.output.failed ≡ l.initial.output.failed;
  unflushed : l.output.flushes ≡ l.initial.output.flushes;
  state : state_after g.M.LineMachine.machine l.initial.machine (complete_lines l.text)
      ≡ state_after g.M.LineMachine.machine l.machine (complete_lines (drop l.start l.text));
  rest : unfinished_line l.text ≡ unfinished_line (drop l.start l.text);
}

abbrev pub decreases-loop-end : goal.decreases-loop-end
decreases-loop-end g l = length l.text - l.start
