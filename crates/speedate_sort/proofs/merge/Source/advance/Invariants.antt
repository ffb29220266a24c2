use Rattle.std.proofs.Common.{◌≡◌, IsSome, false}
use Rattle.speedate_scan.specs.Scan.{is_stopped}
use Rattle.speedate_sort.specs.Merge.{unread}
use Rattle.speedate_sort.proofs.merge.Source.advance.Given as goal

-- the lines that were read so far are left out
abbrev pub invariant-loop : goal.invariant-loop
invariant-loop g l = record {
  known : IsSome (g.R.Read.remaining l.initial.self.input)
      → IsSome (g.R.Read.remaining l.self.input);
  lines : IsSome (g.R.Read.remaining l.initial.self.input)
      → unread (g.R.Read.remaining l.initial.self.input) l.initial.self.keys
      ≡ unread (g.R.Read.remaining l.self.input) l.self.keys;
  stopped : is_stopped l.initial.self.keys.scan.stop ≡ false
      → is_stopped l.self.keys.scan.stop ≡ false;
  instant : l.self.keys.instant ≡ l.initial.self.keys.instant;
  number : l.self.number ≡ l.initial.self.number;
  failed : l.self.failed ≡ l.initial.self.failed;
}
