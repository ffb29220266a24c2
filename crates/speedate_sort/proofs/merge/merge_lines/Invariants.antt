use Rattle.std.proofs.Common.{◌≡◌, ◌++◌}
use Rattle.speedate_stream.specs.Run.{AppendsBut}
use Rattle.speedate_sort.specs.Merge.{AreAlike, AreAllInOrder, AreKnown, StaysSettled, due}
use Rattle.speedate_sort.specs.Merge.{files_left}
use Rattle.speedate_sort.proofs.merge.merge_lines.Given as goal

-- what waits and what is printed of the lines that are left are left to be written
abbrev pub invariant-loop : goal.invariant-loop
invariant-loop g l = record {
  known : AreKnown g.R.Read.remaining l.initial.sources → AreKnown g.R.Read.remaining l.sources;
  sent : AreKnown g.R.Read.remaining l.initial.sources
      → AppendsBut (l.pending.items ++ due (files_left g.R.Read.remaining l.sources))
      (g.W.Write.contents l.initial.output.inner) (g.W.Write.contents l.output.inner)
      (l.initial.pending.items ++ due (files_left g.R.Read.remaining l.initial.sources));
  order : AreKnown g.R.Read.remaining l.initial.sources
      → AreAllInOrder (files_left g.R.Read.remaining l.sources)
      → AreAllInOrder (files_left g.R.Read.remaining l.initial.sources);
  failed : l.output.failed ≡ l.initial.output.failed;
  settled : StaysSettled l.initial.offsets l.offsets;
  alike : AreAlike l.initial.offsets l.initial.sources → AreAlike l.offsets l.sources;
}
