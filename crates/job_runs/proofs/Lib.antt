mod AskLemmas
mod EndLemmas
mod EnterLemmas
mod ImportLemmas
mod OutLemmas
mod RunLemmas
mod ServingLemmas
mod ToldLemmas
