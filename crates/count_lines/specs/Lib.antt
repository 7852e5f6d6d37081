pub mod Answers
pub mod Count
pub mod Requests
pub mod Spelling
