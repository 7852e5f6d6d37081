use Rattle.std.proofs.Common.{◌≡◌, ◌∷◌, [], List, ℕ, true}
use Rattle.day_tables.specs.CalendarCsv.{is_header}
use Rattle.day_tables.specs.CsvRecords.{Record, IsAt}
use Rattle.day_tables.proofs.CsvLemmas.{SoFar}
use Rattle.day_tables.proofs.calendar_csv.days_of.Given as goal

abbrev pub invariant-loop-n : goal.invariant-loop-n
invariant-loop-n l = (bytes : List ℕ) (header : Record) → is_header header ≡ true → IsAt bytes (header ∷ []) l.fn.reader → SoFar bytes header l.n l.days.items l.reader
