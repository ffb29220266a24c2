mod ColumnCallLemmas
mod PartLemmas
