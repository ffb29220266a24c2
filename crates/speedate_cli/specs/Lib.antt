pub mod Bound
pub mod Choice
pub mod Field
pub mod Files
pub mod Idle
pub mod Offset
pub mod Reason
pub mod Word
