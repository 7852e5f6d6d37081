pub mod Names
pub mod Lines
pub mod Giving
pub mod Preparing
pub mod Saying
