use Rattle.std.proofs.Common.{rules}
use Rattle.speedate.proofs.duration.iso.Sums.with_item.Goals as goal

pub returns-then-self-clause-item : goal.returns-then-self-clause-item
returns-then-self-clause-item c = search rules
