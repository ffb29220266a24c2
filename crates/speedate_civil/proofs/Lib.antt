mod AfterTimeLemmas
mod ClockFrontLemmas
mod ClockLemmas
pub mod DateLemmas
pub mod DateOrderLemmas
pub mod DateTimeInstantLemmas
pub mod DateTimeLemmas
pub mod DateTimeTimestampLemmas
pub mod DateTimestampLemmas
pub mod DayNumberLemmas
pub mod FrontLemmas
mod FullClockLemmas
pub mod InstantOrderLemmas
pub mod NoControlLemmas
pub mod LooseLemmas
mod MomentLemmas
mod NumberTextLemmas
mod OffsetLemmas
mod OffsetMoveLemmas
mod ReadLemmas
mod Rfc3339Lemmas
mod StrictPlaceLemmas
pub mod TextOrderLemmas
pub mod TimeLemmas
pub mod ValueLemmas
pub mod MonthLemmas
mod YearLemmas
