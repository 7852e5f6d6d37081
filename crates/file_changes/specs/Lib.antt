pub mod Commands
pub mod Entering
pub mod Migrates
pub mod Runs
pub mod Works
