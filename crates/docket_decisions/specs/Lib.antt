pub mod Additions
pub mod CalendarRows
pub mod Decisions
pub mod EndMoves
pub mod EndRows
pub mod Outcomes
pub mod Refusals
pub mod Tables
-- what contracts of crates above use of the crates below
pub use Rattle.docket_values.specs.Values
