mod AddingCauses
mod AdditionLemmas
pub mod AnswerLemmas
pub mod AnyLemmas
pub mod AskLemmas
mod CalendarLemmas
mod CauseLemmas
pub mod CaseActs
pub mod CellLemmas
pub mod ChangeCauses
mod ChangesLemmas
pub mod CommitLemmas
pub mod ContentsLemmas
mod CountCauses
pub mod CourtLemmas
mod CreateCauses
pub mod CreateLemmas
mod DeleteCauses
mod DeleteLemmas
mod EachLemmas
pub mod EndLemmas
mod FoundLemmas
pub mod HoldsLemmas
mod InsertCauses
pub mod InsertLemmas
pub mod InsideLemmas
pub mod LayoutLemmas
pub mod MakingCauses
mod MoveCauses
mod MoveLemmas
pub mod NothingLemmas
pub mod PassedCauses
mod ProbeLemmas
mod QueryLemmas
pub mod ReadLemmas
mod ReceiptLemmas
mod RowLemmas
mod RowidCounts
mod RowidLemmas
pub mod SelectLemmas
pub mod StandsLemmas
pub mod StoredLemmas
mod StoredRows
mod TextLemmas
pub mod TwoTables
mod UpdateCauses
pub mod UpdateLemmas
pub mod ZoneLengths
-- the lemmas on the rows of dockets, for the crates above
pub use Rattle.docket_orderly.proofs as Orderly
