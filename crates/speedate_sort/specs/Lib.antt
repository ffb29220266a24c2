pub mod Base
pub mod Sort
pub mod Merge
