use Rattle.std.proofs.Common.{◌≡◌, ◌++◌, drop}
use Rattle.speedate_sort.specs.Sort.{lines_at, texts}
use Rattle.speedate_stream.specs.Run.{AppendsBut}
use Rattle.speedate_sort.proofs.sort.write_places.Given as goal

-- what waits and the lines at the places that are left are left to be written
abbrev pub invariant-loop-place : goal.invariant-loop-place
invariant-loop-place g l = record {
  sent : AppendsBut (l.pending.items ++ texts (lines_at l.text (drop l.place-index l.places)))
      (g.W.Write.contents l.initial.output.inner) (g.W.Write.contents l.output.inner)
      (texts (lines_at l.text l.places));
  failed : l.output.failed ≡ l.initial.output.failed;
  unflushed : l.output.flushes ≡ l.initial.output.flushes;
}
