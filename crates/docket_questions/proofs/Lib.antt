mod AskedLemmas
mod CasedLemmas
mod DueLemmas
mod FilingLemmas
mod ForeseenLemmas
mod ListLemmas
mod MoveLemmas
mod NewestLemmas
mod ReasonLemmas
pub mod TellLemmas
mod ToldLemmas
mod WordLemmas
