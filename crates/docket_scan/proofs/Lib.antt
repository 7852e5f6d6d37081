mod ActLemmas
pub mod AnySchema
mod CauseLemmas
mod CountLemmas
mod DeadlineLemmas
pub mod DocketCells
pub mod DocketCounts
pub mod DocketCourt
pub mod DocketJudged
pub mod DocketOrders
pub mod DocketReads
pub mod DocketReceipts
pub mod DocketStatements
pub mod DocketTables
mod FindingLemmas
mod JudgingLemmas
pub mod KindLemmas
pub mod LocalRuleLemmas
mod NameLemmas
pub mod RecordLemmas
pub mod ScanLemmas
pub mod ShortDayLemmas
