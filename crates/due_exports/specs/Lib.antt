pub mod Ends
pub mod Events
pub mod Exports
pub mod Objects
pub mod Records
pub mod Texts
