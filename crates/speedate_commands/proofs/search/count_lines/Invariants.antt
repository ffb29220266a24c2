use Rattle.std.proofs.Common.{◌≡◌, ◌-◌, ◌≤◌}
use Rattle.speedate_commands.proofs.SearchLemmas.{IsCounted}
use Rattle.speedate_commands.proofs.search.count_lines.Given as goal

abbrev pub invariant-loop-at : goal.invariant-loop-at
invariant-loop-at g l = record {
  ordered : l.from ≤ l.at;
  within : l.at ≤ l.to;
  failed : l.failed ≡ l.initial.failed;
  counted : IsCounted (g.S.ReadAt.text l.source) l.fn.number l.from l.at l.number;
}

abbrev pub decreases-loop-at : goal.decreases-loop-at
decreases-loop-at g l = l.to - l.at
