pub mod Judging
pub mod Starts
