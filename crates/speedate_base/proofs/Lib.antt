pub mod DigitLemmas
pub mod DigitRunLemmas
pub mod NearestLemmas
pub mod NumberLemmas
pub mod RefusalLemmas
pub mod RequirementLemmas
pub mod TextLemmas
pub mod TimestampLemmas
pub mod LineLemmas
mod MarkLemmas
mod BetweenLemmas
mod BlockLemmas
mod EightDigitsLemmas
pub mod PatternLemmas
mod RoundingLemmas
mod DecimalLemmas
mod ScaledLemmas
mod ZeroLemmas
mod FaultLemmas
