pub mod Dockets
pub mod Vectors
