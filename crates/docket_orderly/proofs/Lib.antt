mod ActionLemmas
pub mod ActLemmas
pub mod AdditionLemmas
mod ApartLemmas
pub mod CalendarLemmas
pub mod DeadlineLemmas
pub mod DocketLemmas
pub mod EndLemmas
pub mod LabelLemmas
pub mod ListLemmas
pub mod LocalRuleLemmas
mod PairLemmas
pub mod ParentLemmas
pub mod ReceiptLemmas
pub mod RowLemmas
