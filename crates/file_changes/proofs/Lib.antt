mod ApplyLemmas
mod EnterLemmas
mod MigrateLemmas
pub mod RunLemmas
mod StandLemmas
