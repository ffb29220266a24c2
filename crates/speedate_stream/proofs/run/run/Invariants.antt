use Rattle.std.proofs.Common.{◌≡◌, ◌+◌, ◌-◌, ◌≤◌, ◌^◌, [], ℕ, List, take}
use Rattle.std.specs.Io.KnownBytes.{Appends, Consumes}
use Rattle.speedate_stream.specs.Machine.{longest_line, position_after, progress}
use Rattle.speedate_stream.proofs.run.run.Given as goal

-- the machine is where what has been read leads it, what it printed is written, and the front of
-- the block is what is kept of the unfinished line
abbrev pub invariant-loop-block : goal.invariant-loop-block
invariant-loop-block g l = record {
  empty : l.pending.items ≡ [];
  input_failed : l.input.failed ≡ l.initial.input.failed;
  output_failed : l.output.failed ≡ l.initial.output.failed;
  unflushed : l.output.flushes ≡ l.initial.output.flushes;
  short : l.kept ≤ longest_line + 1;
  printed : (read : List ℕ)
      × Consumes (g.R.Read.remaining l.initial.input.inner) (g.R.Read.remaining l.input.inner) read
      × Appends (g.W.Write.contents l.initial.output.inner) (g.W.Write.contents l.output.inner)
      (progress g.M.LineMachine.machine l.initial.machine read)
      × (l.machine ≡ (position_after g.M.LineMachine.machine l.initial.machine read).state)
      × (l.passes ≡ (position_after g.M.LineMachine.machine l.initial.machine read).passes)
      × (take l.kept l.block
      ≡ (position_after g.M.LineMachine.machine l.initial.machine read).kept);
}

abbrev pub decreases-loop-block : goal.decreases-loop-block
decreases-loop-block g l = 2 ^ 64 - l.input.reads
