pub mod Cells
pub mod Codes
pub mod Fits
pub mod Plain
