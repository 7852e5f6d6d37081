-- The answers about a docket that is adopted, and what its connection holds.
use Rattle.std.proofs.Common.{ℕ, List, Option, Result, Ok, Err}
use Rattle.sqlite.specs.Store.{Ghosts}
use Rattle.sqlite.specs.Held.{Held, state}
use Rattle.sqlite.specs.State.{HasCleanDisk}
use Rattle.docket_history.specs.Histories.{History}
use Rattle.docket_tables.specs.Layouts.{Rows}
use Rattle.docket_applying.specs.AnyRows.{Preserves, PreservesAt, PreservesCalendar}
use Rattle.docket_applying.specs.Applying.{Asks}
use Rattle.docket_applying.specs.Dockets.{Docket as Stored}
use Rattle.docket_applying.specs.Listing.{ListsCalendar}
use Rattle.docket_applying.specs.declared.fault.Fault.{Fault}
use Rattle.docket_applying.specs.declared.fault.Fault.TheVariants.{Refused, NoMemory, StoreFailed, Closed, Damaged}
use Rattle.docket_applying.specs.declared.listing.CalendarEnd.{CalendarEnd}
use Rattle.docket_applying.specs.declared.listing.CalendarEnd.TheVariants as calendar_end
use Rattle.docket_calendar.specs.Calendar.{text_of_calendar}
use Rattle.line_io.specs.Output.{HasFront}
use Rattle.file_dockets.specs.Keeping.{HoldsBetween}
use Rattle.file_questions.specs.Tells.{AnswersTo, ListsTo}
use Rattle.file_dockets.proofs.KeepLemmas.{held, lasting}

module _ {S : Type 0} (g : Ghosts S) (conn : Held S) (rows : Rows) where
  kept_at : (fault : Fault) → PreservesAt g conn rows fault → HoldsBetween g conn rows rows
  kept_at (Refused r) holds = held g conn rows holds
  kept_at NoMemory holds = held g conn rows holds
  kept_at StoreFailed lasts = lasting g conn rows lasts
  kept_at Closed holds = held g conn rows holds
  kept_at Damaged holds = held g conn rows holds

  pub kept : {X : Type 0} (answer : Result X Fault) → Preserves g conn rows answer → HoldsBetween g conn rows rows
  kept (Ok x) holds = held g conn rows holds
  kept (Err fault) holds = kept_at fault holds

  pub kept_calendar : (answer : Result ℕ CalendarEnd) → PreservesCalendar g conn rows answer → HoldsBetween g conn rows rows
  kept_calendar (Ok lines) holds = held g conn rows holds
  kept_calendar (Err (calendar_end.Store fault)) holds = kept_at fault holds
  kept_calendar (Err calendar_end.WriteFailed) holds = held g conn rows holds

-- an answer of a docket, whose disk is clean
pub asked : {S X : Type 0} (g : Ghosts S) (d : Stored S) (h : History) (P : X → Type 0) (answer : Result X Fault) → Asks g d h P answer → HasCleanDisk (state g d.conn) → AnswersTo P answer
asked g d h P (Ok x) asks clean = asks.1 clean
asked g d h P (Err (Refused r)) asks clean = asks
asked g d h P (Err NoMemory) asks clean = tt
asked g d h P (Err StoreFailed) asks clean = tt
asked g d h P (Err Closed) asks clean = asks
asked g d h P (Err Damaged) asks clean = asks clean

module _ {S : Type 0} (g : Ghosts S) (d : Stored S) (h : History) (from to : ℕ) (before after : Option (List ℕ)) (clean : HasCleanDisk (state g d.conn)) where
  not_listed : (fault : Fault) → Asks g d h (λ (lines : ℕ). ⊥) (Err fault) → HasFront before after (text_of_calendar d.court h from to) → ListsTo d.court h from to before after (Err (calendar_end.Store fault))
  not_listed (Refused r) asks front = absurd asks
  not_listed NoMemory asks front = front
  not_listed StoreFailed asks front = front
  not_listed Closed asks front = absurd asks
  not_listed Damaged asks front = absurd (asks clean)

  listed_of : (answer : Result ℕ CalendarEnd) → ListsCalendar g d h from to before after answer → ListsTo d.court h from to before after answer
  listed_of (Ok lines) is = is.1 clean
  listed_of (Err (calendar_end.Store fault)) is = not_listed fault is.0 (is.1 clean)
  listed_of (Err calendar_end.WriteFailed) is = is.1 clean

-- a calendar of a docket, whose disk is clean
pub listed : {S : Type 0} (g : Ghosts S) (d : Stored S) (h : History) (from to : ℕ) (before after : Option (List ℕ)) (answer : Result ℕ CalendarEnd)
    → ListsCalendar g d h from to before after answer → HasCleanDisk (state g d.conn) → ListsTo d.court h from to before after answer
listed g d h from to before after answer is clean = listed_of g d h from to before after clean answer is
