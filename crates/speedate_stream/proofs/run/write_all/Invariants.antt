use Rattle.std.proofs.Common.{◌≡◌, length}
use Rattle.speedate_stream.specs.Run.{AppendsBut}
use Rattle.speedate_stream.proofs.run.write_all.Given as goal

-- the bytes have been written up to the rest
abbrev pub invariant-loop-rest : goal.invariant-loop-rest
invariant-loop-rest g l = record {
  failed : l.output.failed ≡ l.initial.output.failed;
  sent : AppendsBut l.rest (g.W.Write.contents l.initial.output.inner)
      (g.W.Write.contents l.output.inner) l.bytes;
  unflushed : l.output.flushes ≡ l.initial.output.flushes;
}

abbrev pub decreases-loop-rest : goal.decreases-loop-rest
decreases-loop-rest g l = length l.rest
