mod ReadingLemmas
mod WordLemmas
mod FieldLemmas
mod FractionLemmas
pub mod SeenLemmas
mod ScanLemmas
mod RunLemmas
