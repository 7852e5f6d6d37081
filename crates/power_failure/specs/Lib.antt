pub mod Headline
pub mod PowerFailures
