pub mod Changing
pub mod Growing
pub mod Keeping
pub mod Migrating
pub mod Moving
