use Rattle.std.proofs.Common.{rules}
use Rattle.speedate.proofs.ColumnLemmas.{text_column-written}
use Rattle.speedate.proofs.column.read.read_column.Goals as goal

pub returns-clause-numbers : goal.returns-clause-numbers
returns-clause-numbers g c = search (rules, text_column-written)
