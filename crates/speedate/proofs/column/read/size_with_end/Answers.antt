use Rattle.std.proofs.Common.{rules}
use Rattle.speedate.proofs.WholeLineLemmas.{IsFirstLineOf-last, IsFirstLineOf-feed}
use Rattle.speedate.proofs.WholeLineLemmas.{IsFirstLineOf-return}
use Rattle.speedate.proofs.column.read.size_with_end.Goals as goal

pub returns-then-size-text : goal.returns-then-size-text
returns-then-size-text c = search (rules, IsFirstLineOf-last)

pub returns-then-text-size-eq10 : goal.returns-then-text-size-eq10
returns-then-text-size-eq10 c = search (rules, IsFirstLineOf-feed)

pub returns-then-byte_at-eq10 : goal.returns-then-byte_at-eq10
returns-then-byte_at-eq10 c = search (rules, IsFirstLineOf-return)
