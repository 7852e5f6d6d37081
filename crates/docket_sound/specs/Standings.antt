-- How many deadlines stand where, by their acts and the whole calendar.
use Rattle.std.specs.Prelude.{Bool, true, false, if◌then◌else◌, List, [], ◌∷◌, map, length, nat_eq}
use Rattle.std.specs.List.{count_by}
use Rattle.civil_time.specs.Zone.{ZoneRules}
use Rattle.court_days.specs.Calendar.{Entered}
use Rattle.court_days.specs.Court.{zone_of}
use Rattle.court_rules.specs.Standings.{standing}
use Rattle.court_rules.specs.declared.act.Standing.{Standing}
use Rattle.court_rules.specs.declared.act.Standing.TheVariants.{Done, Vacated}
use Rattle.docket_decisions.specs.Refusals.{is_running, is_suspended, is_awaiting}
use Rattle.docket_history.specs.declared.row.ActRow.{ActRow}
use Rattle.docket_sound.specs.Runs.{Run, runs_of}
use Rattle.docket_sound.specs.declared.act.ActCheck.{ActCheck}
use Rattle.docket_sound.specs.declared.standings.Standings.{Standings}

abbrev pub is_done : Standing → Bool
is_done Done = true
is_done _ = false

abbrev pub is_vacated : Standing → Bool
is_vacated Vacated = true
is_vacated _ = false

abbrev pub counts_of_standings : List Standing → Standings
counts_of_standings standings = record {
  running = count_by is_running standings;
  suspended = count_by is_suspended standings;
  awaiting = count_by is_awaiting standings;
  done = count_by is_done standings;
  vacated = count_by is_vacated standings;
}

abbrev pub standing_of_run : ZoneRules → Entered → Run → Standing
standing_of_run zone entered run = standing zone entered (map (λ row. row.act) run.rows)

abbrev pub standings_of_runs : ZoneRules → Entered → List Run → List Standing
standings_of_runs zone entered runs = map (standing_of_run zone entered) runs

-- where each deadline stands, in the order of the acts
abbrev pub standings_of : ZoneRules → Entered → List ActRow → List Standing
standings_of zone entered rows = standings_of_runs zone entered (runs_of rows)

-- where the deadline of the run under way stands, if there is one
abbrev pub last_standings : ActCheck → List Standing
last_standings check =
    if nat_eq (length check.acts.items) 0 then []
    else standing (zone_of check.court) check.calendar check.acts.items ∷ []
