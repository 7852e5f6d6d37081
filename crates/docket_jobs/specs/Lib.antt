pub mod Arguments
pub mod CommandLine
pub mod EntryLine
pub mod Jobs
pub mod Verbs
