pub use Rattle.speedate_base.proofs.LineLemmas
mod ClockFormLemmas
mod DayFormLemmas
mod DurationAnswerLemmas
mod DurationLemmas
mod DurationPlaceLemmas
pub mod DurationTextLemmas
mod ExchangedLemmas
mod FractionLemmas
mod InOrderLemmas
mod IsoAmountLemmas
mod IsoFormLemmas
mod IsoItemLemmas
mod IsoTextLemmas
mod WholeLineLemmas
mod ColumnLemmas
mod TextsLemmas
mod FrontNumberLemmas
mod ColumnTextLemmas
mod PrintedLineLemmas
