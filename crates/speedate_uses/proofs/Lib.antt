mod FallingLemmas
mod LogLemmas
mod OrderLemmas
mod ScheduleLemmas
