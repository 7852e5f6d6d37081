pub mod ElementLemmas
pub mod EscapeLemmas
pub mod MarkLemmas
pub mod TagLemmas
pub mod TextLemmas
