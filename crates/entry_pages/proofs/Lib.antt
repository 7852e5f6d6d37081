pub mod FieldLemmas
pub mod KindLemmas
pub mod ExampleLemmas
mod CommandLemmas
