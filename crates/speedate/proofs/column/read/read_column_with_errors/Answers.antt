use Rattle.std.proofs.Common.{rules}
use Rattle.speedate.proofs.ColumnLemmas.{overwritten-front, text_column-errors, text_column-goes_on}
use Rattle.speedate.proofs.ColumnLemmas.{text_column-short}
use Rattle.speedate.proofs.column.read.read_column_with_errors.Goals as goal

pub returns : goal.returns
returns g c =
    search (rules, text_column-goes_on, text_column-short, overwritten-front, text_column-errors)
