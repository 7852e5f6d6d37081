pub mod Serves
pub mod Left
