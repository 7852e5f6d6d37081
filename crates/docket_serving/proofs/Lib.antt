mod RunLemmas
mod StepLemmas
mod GuardLemmas
mod WaitingLemmas
pub mod LedLemmas
