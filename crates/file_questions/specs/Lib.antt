pub mod Asking
pub mod CaseLists
pub mod Checks
pub mod Tells
