-- What a job on the docket of a history prints.
use Rattle.std.specs.Prelude.{◌≡◌, ℕ, List, length, Option, Result, Ok, Err}
use Rattle.std.specs.Io.KnownBytes.{Appends}
use Rattle.court_days.specs.Court.{CourtSettings}
use Rattle.docket_history.specs.Histories.{History}
use Rattle.docket_calendar.specs.Calendar.{calendar_rows, text_of_calendar}
use Rattle.docket_applying.specs.declared.fault.Fault.{Fault}
use Rattle.docket_applying.specs.declared.fault.Fault.TheVariants.{NoMemory, StoreFailed}
use Rattle.docket_applying.specs.declared.listing.CalendarEnd.{CalendarEnd}
use Rattle.docket_applying.specs.declared.listing.CalendarEnd.TheVariants as calendar_end
use Rattle.line_io.specs.Output.{HasFront}

-- a question has this answer; it has none only where memory ran out or the database failed
abbrev pub AnswersTo : {X : Type 0} → (X → Type 0) → Result X Fault → Type 0
AnswersTo P (Ok answer) = P answer
AnswersTo P (Err NoMemory) = Unit {0}
AnswersTo P (Err StoreFailed) = Unit {0}
AnswersTo P (Err _) = ⊥

-- the calendar of the days from one to another went out, or a prefix of it
abbrev pub ListsTo : CourtSettings → History → ℕ → ℕ → Option (List ℕ) → Option (List ℕ) → Result ℕ CalendarEnd → Type 0
ListsTo court h from to before after (Ok lines) =
    Appends before after (text_of_calendar court h from to) × (lines ≡ length (calendar_rows court h from to))
ListsTo court h from to before after (Err (calendar_end.Store NoMemory)) = HasFront before after (text_of_calendar court h from to)
ListsTo court h from to before after (Err (calendar_end.Store StoreFailed)) = HasFront before after (text_of_calendar court h from to)
ListsTo court h from to before after (Err (calendar_end.Store _)) = ⊥
ListsTo court h from to before after (Err calendar_end.WriteFailed) = HasFront before after (text_of_calendar court h from to)
