pub mod Beginnings
pub mod CourtTexts
pub mod TextNames
pub mod Words
pub mod SpellingLemmas
