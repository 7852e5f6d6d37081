pub mod Additions
pub mod Orderly
