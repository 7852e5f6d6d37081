pub mod EndLemmas
pub mod PlainLemmas
pub mod RuleLemmas
pub mod ReceiptLemmas
