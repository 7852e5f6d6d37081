-- What the writing of a calendar leaves of the connection and of the writer.
use Rattle.std.specs.Prelude.{◌≡◌, ℕ, List, [], ◌++◌, length, Option, Result, Ok, Err}
use Rattle.std.specs.List.{AllByRecursion}
use Rattle.std.specs.Io.KnownBytes.{Appends}
use Rattle.sqlite.specs.Store.{Ghosts}
use Rattle.sqlite.specs.State.{HasCleanDisk}
use Rattle.sqlite.specs.Held.{Held, state}
use Rattle.court_days.specs.Court.{CourtSettings}
use Rattle.docket_history.specs.Histories.{History}
use Rattle.docket_decisions.specs.Outcomes.{IsHistory}
use Rattle.docket_decisions.specs.Tables.{rows_of}
use Rattle.docket_wire.specs.Valid.{IsCommand}
use Rattle.docket_tables.specs.Contents.{rows_in}
use Rattle.docket_tables.specs.Layouts.{Rows}
use Rattle.docket_tables.specs.Orderly.{IsCourtSettings}
use Rattle.docket_tables.specs.Readings.{Fails, StaysAt}
use Rattle.docket_tables.specs.Stands.{HoldsRows}
use Rattle.line_io.specs.Output.{HasFront}
use Rattle.docket_calendar.specs.Calendar.{calendar_rows, text_of_calendar}
use Rattle.docket_calendar.specs.Sending.{HasBegun}
use Rattle.docket_calendar.specs.declared.stop.Stop.{Stop}
use Rattle.docket_calendar.specs.declared.stop.Stop.TheVariants.{NotBegun, Broken, WriteFailed}

-- a history of the court, of commands whose texts can be written
pub record IsHistoryOf (court : CourtSettings) (h : History) : Type 0 where
  pub settings : IsCourtSettings court
  pub history : IsHistory court h
  pub commands : AllByRecursion IsCommand h

-- the rows of the docket of a history
abbrev pub docket_rows : CourtSettings → History → Rows
docket_rows court h = rows_in court (rows_of court h)

-- what the writing of a calendar leaves of rows, whatever they are: the connection still holds them, but may be shut if the store failed
abbrev pub Stays : {S : Type 0} (g : Ghosts S) → Held S → Rows → Result ℕ Stop → Type 0
Stays g new rows (Ok lines) = HoldsRows g new rows
Stays g new rows (Err (NotBegun fault)) = StaysAt g new rows fault
Stays g new rows (Err (Broken fault)) = StaysAt g new rows fault
Stays g new rows (Err WriteFailed) = HoldsRows g new rows

module _ {S : Type 0} (g : Ghosts S) (court : CourtSettings) (h : History) (from to : ℕ) (front : List ℕ) where
  -- the bytes and the text of the calendar went out whole, with this many lines; or nothing did, or a front of it, not empty unless the writer
  -- failed. The rows stay as they were; if the store failed, the connection may be shut
  abbrev pub Tells : Option (List ℕ) → Option (List ℕ) → Held S → Result ℕ Stop → Type 0
  Tells before after new (Ok lines) =
      HoldsRows g new (docket_rows court h)
      × (HasCleanDisk (state g new) → Appends before after (front ++ text_of_calendar court h from to) × (lines ≡ length (calendar_rows court h from to)))
  Tells before after new (Err (NotBegun fault)) = Fails g new (docket_rows court h) fault × (HasCleanDisk (state g new) → Appends before after [])
  Tells before after new (Err (Broken fault)) =
      Fails g new (docket_rows court h) fault × (HasCleanDisk (state g new) → HasBegun before after (front ++ text_of_calendar court h from to))
  Tells before after new (Err WriteFailed) =
      HoldsRows g new (docket_rows court h) × (HasCleanDisk (state g new) → HasFront before after (front ++ text_of_calendar court h from to))
