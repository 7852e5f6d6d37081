pub mod Ends
pub mod Explain
pub mod Explained
