mod OrderLemmas
mod SortLemmas
mod SortedEntryLemmas
mod MergeLemmas
mod SourceLemmas
