pub mod CauseWords
pub mod Lines
pub mod Words
