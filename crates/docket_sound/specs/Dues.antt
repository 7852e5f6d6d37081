-- The rows of the ends of running deadlines, made from the rows of acts.
use Rattle.std.specs.Prelude.{◌≡◌, ℕ, if◌then◌else◌, List, [], ◌∷◌, ◌++◌, map, length, nat_eq}
use Rattle.civil_time.specs.Zone.{ZoneRules}
use Rattle.court_days.specs.Calendar.{Entered}
use Rattle.court_days.specs.Court.{zone_of}
use Rattle.court_rules.specs.Standings.{standing}
use Rattle.court_rules.specs.declared.act.Act.{Act}
use Rattle.docket_decisions.specs.EndRows.{end_row, end_running}
use Rattle.docket_decisions.specs.declared.end_row.StoredEnd.{StoredEnd}
use Rattle.docket_history.specs.declared.row.ActRow.{ActRow}
use Rattle.docket_sound.specs.Runs.{Run, runs_of}
use Rattle.docket_sound.specs.declared.act.ActCheck.{ActCheck}
use Rattle.docket_sound.specs.declared.due.DueCheck.{DueCheck}

-- the row of a deadline with these acts, if its time runs by the calendar
abbrev pub due_of_acts : ZoneRules → Entered → ℕ → ℕ → List Act → List StoredEnd
due_of_acts zone entered case deadline acts = end_row case deadline (end_running zone (standing zone entered acts))

abbrev pub dues_of_runs : ZoneRules → Entered → List Run → List StoredEnd
dues_of_runs zone entered [] = []
dues_of_runs zone entered (run ∷ runs) =
    due_of_acts zone entered run.case run.deadline (map (λ row. row.act) run.rows)
    ++ dues_of_runs zone entered runs

-- the rows of the running deadlines by the whole calendar, in the order of the acts
abbrev pub dues_of : ZoneRules → Entered → List ActRow → List StoredEnd
dues_of zone entered rows = dues_of_runs zone entered (runs_of rows)

-- the row of the run under way, if there is one and its time runs
abbrev pub last_dues : ActCheck → List StoredEnd
last_dues check =
    if nat_eq (length check.acts.items) 0 then []
    else due_of_acts (zone_of check.court) check.calendar check.case check.deadline check.acts.items

-- these rows were taken: the expected ones begin with them
pub record HasTakenDues (check : DueCheck) (rows : List StoredEnd) : Type 0 where
  pub rest : List StoredEnd
  pub begins : check.expected.items ≡ rows ++ rest
  pub counted : check.at ≡ length rows
