pub mod ShapeLemmas
pub mod EnteringLemmas
mod LineLemmas
