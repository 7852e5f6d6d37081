pub mod MomentLemmas
pub mod SamenessLemmas
pub mod SchemaLemmas
pub mod WordLemmas
