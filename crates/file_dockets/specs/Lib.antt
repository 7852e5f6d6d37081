pub mod Adopting
pub mod Keeping
pub mod Working
pub mod Works
