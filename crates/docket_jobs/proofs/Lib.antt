pub mod EntryLemmas
pub mod LineLemmas
pub mod MatchLemmas
pub mod ReadingLemmas
