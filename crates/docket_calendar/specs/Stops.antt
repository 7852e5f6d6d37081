-- Where a question stops.
use Rattle.std.specs.Prelude.{◌≡◌, ◌≤◌, ℕ, List}
use Rattle.sqlite.specs.Given.{HasGiven}
use Rattle.sqlite.specs.Held.{Held}
use Rattle.sqlite.specs.Order.{Row}
use Rattle.sqlite.specs.State.{State}
use Rattle.sqlite.specs.Store.{Ghosts}
use Rattle.docket_tables.specs.Causes.{IsCausedFault}
use Rattle.docket_tables.specs.Schema.{docket_schema}
use Rattle.docket_tables.specs.declared.fault.ReadFault.{ReadFault}
use Rattle.docket_calendar.specs.Question.{question, days_asked}
use Rattle.docket_calendar.specs.declared.stop.Stop.{Stop}
use Rattle.docket_calendar.specs.declared.stop.Stop.TheVariants.{NotBegun, Broken, WriteFailed}

-- before the first line nothing has begun, and after it the text is broken
abbrev pub IsStopAt : ℕ → ReadFault → Stop → Type 0
IsStopAt lines fault (NotBegun found) = (lines ≡ 0) × (found ≡ fault)
IsStopAt lines fault (Broken found) = (1 ≤ lines) × (found ≡ fault)
IsStopAt lines fault WriteFailed = ⊥

-- if the store failed, its error has a cause
abbrev pub IsCausedStop : State → State → Stop → Type 0
IsCausedStop old new (NotBegun fault) = IsCausedFault old new fault
IsCausedStop old new (Broken fault) = IsCausedFault old new fault
IsCausedStop old new WriteFailed = Unit {0}

-- the question about a range of days is under way over the tables of a docket
pub record IsUnderWay {S : Type 0} (g : Ghosts S) (h : Held S) : Type 0 where
  pub first : ℕ
  pub last : ℕ
  pub given : List Row
  pub asked : HasGiven g question (days_asked first last) h given
  pub schema : h.schema ≡ docket_schema
