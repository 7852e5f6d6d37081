mod CauseLemmas
pub mod DueLemmas
pub mod HistoryLemmas
pub mod JoinLemmas
pub mod JoinMeans
pub mod KeyLemmas
pub mod ListsLemmas
mod Fronts
mod GatherLemmas
mod NextLemmas
pub mod SendLemmas
pub mod TellLemmas
pub mod Sorting
pub mod StandsLemmas
