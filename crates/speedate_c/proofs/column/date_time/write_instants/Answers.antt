use Rattle.speedate_c.proofs.ColumnCallLemmas.{IsColumn-same}
use Rattle.speedate_c.proofs.column.date_time.write_instants.Goals as goal

pub returns-clause-column : goal.returns-clause-column
returns-clause-column c =
    IsColumn-same _ _ _ _ _ _ _ _ _ _ _ _ c.date_time_reader-reader.ensures.reads
    c.date_time_reader-reader.ensures.places
    c.date_time_kind-kind.ensures.kind c.write_column.ensures.column
