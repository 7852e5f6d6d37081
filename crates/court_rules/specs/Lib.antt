pub mod Acts
pub mod Ends
pub mod LocalRules
pub mod Methods
pub mod Rows
pub mod Rules
pub mod Standings
-- what contracts of crates above use of the crate below
pub use Rattle.court_days.specs.declared.calendar
pub use Rattle.court_days.specs.declared.filing
