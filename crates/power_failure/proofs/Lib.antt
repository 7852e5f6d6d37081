mod FailingLemmas
mod HeadlineLemmas
