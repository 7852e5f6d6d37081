pub mod ContentLines
pub mod Events
pub mod Texts
pub mod Times
