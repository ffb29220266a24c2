mod LineOutputLemmas
mod MachineLemmas
mod PositionLemmas
pub mod SentLemmas
