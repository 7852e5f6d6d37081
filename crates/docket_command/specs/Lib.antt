pub mod Conversions
pub mod FieldTypes
pub mod Fields
pub mod Moments
pub mod Names
pub mod Refusals
pub mod Sameness
pub mod Schema
pub mod Words
-- what contracts of crates above use of the crates below
pub use Rattle.court_rules.specs.Acts
pub use Rattle.court_rules.specs.LocalRules
pub use Rattle.court_rules.specs.calendar
pub use Rattle.court_rules.specs.filing
pub use Rattle.court_rules.specs.declared.act
