-- Why a question to a docket has no answer.
use Rattle.std.specs.Prelude.{◌≡◌, ℕ, List}
use Rattle.court_days.specs.Calendar.{Entered}
use Rattle.court_days.specs.Court.{CourtSettings, zone_of}
use Rattle.docket_decisions.specs.EndRows.{end_rows_of}
use Rattle.docket_decisions.specs.declared.end_row.StoredEnd.{StoredEnd}
use Rattle.docket_history.specs.declared.view.DeadlineView.{DeadlineView}
use Rattle.docket_applying.specs.Sound.{IsSoundCase}
use Rattle.docket_applying.specs.declared.fault.Fault.{Fault}
use Rattle.docket_applying.specs.declared.fault.Fault.TheVariants.{NoMemory, Damaged}

-- a history may show these deadlines of case k, and the rows are those of their ends by the calendar
pub record AreEndsBy (court : CourtSettings) (entered : Entered) (k : ℕ) (deadlines : List DeadlineView) (rows : List StoredEnd) : Type 0 where
  pub sound : IsSoundCase court deadlines
  pub same : rows ≡ end_rows_of (zone_of court) entered k deadlines

-- why there is no answer: out of memory, or what holds of every history does not hold
abbrev pub IsNotTold : Type 0 → Fault → Type 0
IsNotTold Sound NoMemory = Unit {0}
IsNotTold Sound Damaged = Sound → ⊥
IsNotTold Sound _ = ⊥
