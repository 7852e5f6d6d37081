pub mod CsvLemmas
