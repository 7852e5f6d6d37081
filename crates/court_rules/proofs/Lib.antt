pub mod Chains
pub mod Entries
pub mod Limits
pub mod LocalNames
pub mod Names
