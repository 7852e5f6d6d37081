pub mod AnyRows
pub mod Applying
pub mod Asking
pub mod Causes
pub mod CourtDockets
pub mod Dockets
pub mod Grounds
pub mod Listing
pub mod Settling
pub mod Sound
pub mod Told
pub mod Viewing
pub mod Writing
-- of the crates below, what contracts above speak of
pub use Rattle.docket_calendar.specs.Calendar
