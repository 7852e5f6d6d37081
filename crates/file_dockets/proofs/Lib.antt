pub mod AdoptLemmas
pub mod KeepLemmas
pub mod WorkLemmas
