use Rattle.std.proofs.Common.{◌≡◌, ◌≤◌, ◌⊎◌, IfSome}
use Rattle.speedate_commands.specs.InOrder.{IsBefore, IsFrom}
use Rattle.speedate_commands.proofs.search.Values.cut.Given as goal

abbrev pub invariant-loop : goal.invariant-loop
invariant-loop g l = record {
  from : l.from ≤ l.before;
  failed : l.failed ≡ l.initial.failed;
  before : (l.before ≡ l.from) ⊎ IfSome (g.S.ReadAt.text l.source)
      (λ text. IsBefore l.self.reader l.self.has_offset text l.before l.bound);
  later : IfSome l.after (λ at. l.from ≤ at);
  after : IfSome l.after (λ at. IfSome (g.S.ReadAt.text l.source)
      (λ text. IsFrom l.self.reader l.self.has_offset text at l.bound));
}
