pub mod Ledger
pub mod Log
pub mod Schedule
