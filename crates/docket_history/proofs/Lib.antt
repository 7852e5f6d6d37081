pub mod Asked
pub mod CalendarLemmas
pub mod ShortDays
