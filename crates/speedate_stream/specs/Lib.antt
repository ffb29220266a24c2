pub mod Machine
pub mod Watch
pub mod Run
