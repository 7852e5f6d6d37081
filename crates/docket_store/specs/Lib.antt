pub mod Asking
pub mod Causes
pub mod Left
pub mod Migrating
pub mod Opening
pub mod Reopening
pub mod Sequence
pub mod Sessions
-- of the crate below, what contracts above speak of
pub use Rattle.docket_applying.specs.Applying
pub use Rattle.docket_applying.specs.CourtDockets
