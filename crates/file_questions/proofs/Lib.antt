mod AskLemmas
mod CaseLemmas
mod ListLemmas
mod PartLemmas
mod TellLemmas
