use Rattle.std.proofs.Common.{◌≡◌, ◌<◌, IfSome, drop, length}
use Rattle.speedate_sort.specs.Merge.{best_from, best_of, instants}
use Rattle.speedate_sort.proofs.merge.choose.Given as goal

-- the best of the sources so far, and of those from here on, is the best of all
abbrev pub invariant-loop-index : goal.invariant-loop-index
invariant-loop-index g l = record {
  best : best_from l.best l.index (instants (drop l.index l.sources))
      ≡ best_of (instants l.sources);
  within : IfSome l.best (λ best. best.index < length l.sources);
}
