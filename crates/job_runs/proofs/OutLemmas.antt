-- What went out of a calendar is its text, or a prefix of it.
use Rattle.std.proofs.Common.{ℕ, List, Option, Result, Ok, Err}
use Rattle.court_days.specs.Court.{CourtSettings}
use Rattle.docket_applying.specs.declared.fault.Fault.TheVariants.{Refused, NoMemory, StoreFailed, Closed, Damaged}
use Rattle.docket_applying.specs.declared.listing.CalendarEnd.{CalendarEnd}
use Rattle.docket_applying.specs.declared.listing.CalendarEnd.TheVariants.{Store, WriteFailed}
use Rattle.docket_calendar.specs.Calendar.{text_of_calendar}
use Rattle.docket_history.specs.Histories.{History}
use Rattle.file_questions.specs.Tells.{ListsTo}
use Rattle.job_runs.specs.Asked.{GoesOut}

pub calendar_out : (court : CourtSettings) (h : History) (from to : ℕ) (before after : Option (List ℕ)) (end : Result ℕ CalendarEnd) → ListsTo court h from to before after end
    → GoesOut (text_of_calendar court h from to) before after end
calendar_out court h from to before after (Ok lines) is = is.0
calendar_out court h from to before after (Err (Store (Refused r))) is = absurd is
calendar_out court h from to before after (Err (Store NoMemory)) is = is
calendar_out court h from to before after (Err (Store StoreFailed)) is = is
calendar_out court h from to before after (Err (Store Closed)) is = absurd is
calendar_out court h from to before after (Err (Store Damaged)) is = absurd is
calendar_out court h from to before after (Err WriteFailed) is = is
