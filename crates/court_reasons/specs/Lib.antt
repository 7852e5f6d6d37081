pub mod Causes
pub mod Explains
pub mod Holidays
pub mod Passing
pub mod Statutory
pub mod Steps
pub mod Told
