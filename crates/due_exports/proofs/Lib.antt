pub mod ArrayLemmas
pub mod CalendarLemmas
pub mod FieldLemmas
pub mod LexLemmas
pub mod ObjectLemmas
pub mod QuoteLemmas
pub mod RecordLemmas
pub mod TableLemmas
