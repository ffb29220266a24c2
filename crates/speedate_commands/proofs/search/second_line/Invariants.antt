use Rattle.std.proofs.Common.{◌≡◌}
use Rattle.speedate_commands.proofs.SearchLemmas.{HasNoFeed}
use Rattle.speedate_commands.proofs.search.second_line.Given as goal

abbrev pub invariant-loop : goal.invariant-loop
invariant-loop g l = record {
  none : HasNoFeed (g.S.ReadAt.text l.source) l.at;
  failed : l.failed ≡ l.initial.failed;
}
