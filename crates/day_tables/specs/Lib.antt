pub mod CalendarCsv
pub mod CsvRecords
