-- When the rows of acts are sound.
use Rattle.std.specs.Prelude.{◌≡◌, ◌<◌, ℕ, ℤ, ◌+◌, ◌^◌, ◌==◌, nat_lt, Bool, true, not, ◌&&◌, ◌||◌, List, map, length, nat_eq}
use Rattle.std.specs.List.{AllByRecursion, list_all}
use Rattle.civil_time.specs.LocalTime.{local_day, seconds}
use Rattle.civil_time.specs.Zone.{ZoneRules}
use Rattle.court_days.specs.Court.{CourtSettings, zone_of}
use Rattle.court_rules.specs.Acts.{acts_ok, is_instant, is_entered_day}
use Rattle.court_rules.specs.declared.act.Act.{Act}
use Rattle.court_rules.specs.declared.act.Act.TheVariants as act
use Rattle.court_rules.specs.declared.act.Start.TheVariants as start
use Rattle.docket_history.specs.declared.row.ActRow.{ActRow}
use Rattle.docket_sound.specs.Counted.{HasNumbered, cases_of, most_of}
use Rattle.docket_sound.specs.Dues.{dues_of_runs}
use Rattle.docket_sound.specs.Numbers.{RunsFrom, AreNumbered, numbers_in}
use Rattle.docket_sound.specs.Runs.{Run, runs_of, run_key, closed_of, open_of}
use Rattle.docket_sound.specs.Standings.{counts_of_standings, standings_of_runs}
use Rattle.docket_sound.specs.declared.act.ActCheck.{ActCheck}

-- the local day of the instant is one that a court may enter
abbrev pub is_entered_at : ZoneRules → ℤ → Bool
is_entered_at zone at = is_instant at && is_entered_day (local_day zone (seconds at))

-- the act's instant, if it has one, is on such a day
abbrev pub is_on_entered_day : ZoneRules → Act → Bool
is_on_entered_day zone (act.Start (start.Hours hours)) = is_entered_at zone hours.at
is_on_entered_day zone (act.Done at way) = is_entered_at zone at
is_on_entered_day zone _ = true

-- a deadline may have these acts
abbrev pub are_lawful : ZoneRules → List Act → Bool
are_lawful zone acts = acts_ok acts && list_all (is_on_entered_day zone) acts

-- the acts of a run are numbered from 1, and lawful
pub record IsSoundRun (zone : ZoneRules) (run : Run) : Type 0 where
  pub numbered : RunsFrom 1 (map (λ row. row.number) run.rows)
  pub lawful : are_lawful zone (map (λ row. row.act) run.rows) ≡ true

-- each deadline of each case has a run of lawful acts, in the order of their numbers, and there are no others
pub record AreSoundActs (court : CourtSettings) (cases : ℕ) (deadlines : ℕ → ℕ) (rows : List ActRow) : Type 0 where
  pub numbered : AreNumbered cases 1000 (map run_key (runs_of rows))
  pub lawful : AllByRecursion (IsSoundRun (zone_of court)) (runs_of rows)
  pub complete : (k : ℕ) → length (numbers_in k (map run_key (runs_of rows))) ≡ deadlines k

-- what the check requires of a row

-- acts are kept of a deadline, and the row is of it
abbrev pub continues : ActCheck → ActRow → Bool
continues check row =
    not (nat_eq (length check.acts.items) 0)
    && (row.case == check.case && row.deadline == check.deadline)

abbrev pub may_go_on : ActCheck → ActRow → Bool
may_go_on check row = nat_lt (length check.acts.items) 100 && row.number == length check.acts.items + 1

abbrev pub may_close : ActCheck → Bool
may_close check = nat_eq (length check.acts.items) 0 || are_lawful (zone_of check.court) check.acts.items

abbrev pub begins : ActRow → Bool
begins row = row.number == 1

-- these rows were taken: the closed runs are sound, and the acts of the one under way are kept
pub record HasTakenActs (check : ActCheck) (rows : List ActRow) : Type 0 where
  pub most : most_of check.runs ≡ 1000
  pub cases : cases_of check.runs ≡ cases_of check.deadlines
  pub made : length check.deadlines.counts.items ≡ cases_of check.deadlines + 1
  pub acts : check.acts.items ≡ map (λ row. row.act) (open_of rows).rows
  pub case : check.case ≡ (open_of rows).case
  pub deadline : check.deadline ≡ (open_of rows).deadline
  pub numbered : RunsFrom 1 (map (λ row. row.number) (open_of rows).rows)
  pub runs : HasNumbered check.runs (map run_key (runs_of rows))
  pub lawful : AllByRecursion (IsSoundRun (zone_of check.court)) (closed_of rows)
  pub dues : check.dues.items ≡ dues_of_runs (zone_of check.court) check.calendar (closed_of rows)
  pub standings :
      length rows < 2 ^ 64
      → check.standings ≡ counts_of_standings (standings_of_runs (zone_of check.court) check.calendar (closed_of rows))
