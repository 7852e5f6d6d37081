-- What decides where a deadline of a docket stands.
use Rattle.std.specs.Prelude.{◌≡◌, ℕ, Option, Some, None}
use Rattle.docket_history.specs.Histories.{History, deadlines}
use Rattle.docket_history.specs.Records.{calendar}
use Rattle.docket_history.specs.Views.{deadline_at}
use Rattle.docket_applying.specs.declared.explaining.Grounds.{Grounds}

-- the deadline of that number of the case, if there is one, with its rule and its acts, and the calendar of the history
abbrev pub AreGrounds : History → ℕ → ℕ → Option Grounds → Type 0
AreGrounds h case number None = deadline_at (deadlines case h) number ≡ None
AreGrounds h case number (Some grounds) = (deadline_at (deadlines case h) number ≡ Some grounds.deadline) × (grounds.calendar ≡ calendar h)
