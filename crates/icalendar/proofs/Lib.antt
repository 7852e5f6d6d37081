pub mod CharacterLaws
pub mod Characters
pub mod EventLemmas
pub mod Folding
pub mod LineLaws
pub mod TimeLemmas
pub mod ValueLaws
pub mod Values
