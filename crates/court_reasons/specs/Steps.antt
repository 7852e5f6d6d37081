-- The steps by which the standing of a deadline is found.
use Rattle.std.specs.Prelude.{ℕ, ◌+◌, ◌-◌, ◌*◌, Bool, true, false, if◌then◌else◌, List, [], ◌∷◌, ◌++◌, map, pos}
use Rattle.std.specs.List.{range_with_len}
use Rattle.civil_time.specs.LocalTime.{local_day, seconds}
use Rattle.civil_time.specs.Zone.{ZoneRules}
use Rattle.court_days.specs.Calendar.{Entered}
use Rattle.court_days.specs.Ends.{first_open, last_business, months_away, end_of_days}
use Rattle.court_days.specs.HourEnds.{is_accessible, first_accessible}
use Rattle.court_days.specs.Hours.{same_time_on}
use Rattle.court_days.specs.Legal.{is_open}
use Rattle.court_days.specs.Period.{days_away}
use Rattle.court_days.specs.declared.calendar.Direction.{Direction}
use Rattle.court_days.specs.declared.calendar.Direction.TheVariants.{Forward, Backward}
use Rattle.court_days.specs.declared.filing.End.TheVariants.{LastDay, Moment}
use Rattle.court_rules.specs.declared.act.Act.{Act}
use Rattle.court_rules.specs.declared.act.Act.TheVariants as act
use Rattle.court_rules.specs.declared.act.DayPeriod.{DayPeriod}
use Rattle.court_rules.specs.declared.act.HourPeriod.{HourPeriod}
use Rattle.court_rules.specs.declared.act.Start.{Start}
use Rattle.court_rules.specs.declared.act.Start.TheVariants as start
use Rattle.court_rules.specs.declared.act.Standing.{Standing}
use Rattle.court_rules.specs.declared.act.Standing.TheVariants as standing
use Rattle.court_rules.specs.declared.table.Period.{Period}
use Rattle.court_rules.specs.declared.table.Period.TheVariants as period
use Rattle.court_rules.specs.Ends.{end_of_period}
use Rattle.court_rules.specs.Standings.{last_day, standing_after}
use Rattle.court_reasons.specs.declared.cause.Causes.{Causes}
use Rattle.court_reasons.specs.declared.step.Step.{Step}
use Rattle.court_reasons.specs.declared.step.Step.TheVariants as step
use Rattle.court_reasons.specs.Causes.{business_causes, day_causes, hour_causes}

-- so many days from a day on, each with its causes
abbrev pub days_passed : (ℕ → Causes) → ℕ → ℕ → List Step
days_passed causes from count = map (λ day. step.Passed day (causes day)) (range_with_len from count)

-- so many days from a day back
abbrev pub days_passed_back : (ℕ → Causes) → ℕ → ℕ → List Step
days_passed_back causes from count = map (λ n. step.Passed (from - n) (causes (from - n))) (range_with_len 0 count)

-- the days from one up to, but not with, another
abbrev pub passed : (ℕ → Causes) → ℕ → ℕ → List Step
passed causes from end = days_passed causes from (end - from)

-- the days from one back to, but not with, another
abbrev pub passed_back : (ℕ → Causes) → ℕ → ℕ → List Step
passed_back causes from last = days_passed_back causes from (from - last)

-- from a day on to the first open business day, on which the period ends (Fed. R. Civ. P. 6(a)(1)(C), 6(a)(3)(A))
abbrev pub way_on : Entered → Direction → ℕ → List Step
way_on entered direction from =
    passed (day_causes entered direction) from (first_open entered direction from)
    ++ step.Ends (LastDay (first_open entered direction from)) ∷ []

-- from the last business day: it is the end, or the office was closed and the period moves forward (6(a)(3)(A))
abbrev pub from_last : Entered → ℕ → List Step
from_last entered last =
    if is_open entered last then step.Ends (LastDay last) ∷ []
    else step.Moved (LastDay last) ∷ way_on entered Backward (last + 1)

-- from the day to which a period is counted: on, or back to the last business day (6(a)(5))
abbrev pub way_from : Entered → Direction → ℕ → List Step
way_from entered Forward from = way_on entered Forward from
way_from entered Backward from =
    passed_back (business_causes entered Backward) from (last_business entered from)
    ++ from_last entered (last_business entered from)

-- the day to which a period is counted (6(a)(1)(A), (B))
abbrev pub counted_to : Direction → ℕ → Period → ℕ
counted_to direction trigger (period.Days count) = days_away direction trigger count
counted_to direction trigger (period.Months count) = months_away direction trigger count

abbrev pub way : Entered → Direction → ℕ → List Step
way entered direction from = step.Counted (LastDay from) ∷ way_from entered direction from

-- the three days that service adds, if it does, after the period would otherwise end (6(d))
abbrev pub three_more : Entered → Bool → ℕ → List Step
three_more entered true end = step.ThreeAdded (end + 3) ∷ way_on entered Forward (end + 3)
three_more entered false end = []

abbrev pub steps_of_days : Entered → DayPeriod → List Step
steps_of_days entered days =
    step.Period days
    ∷ (way entered days.direction (counted_to days.direction days.trigger days.period)
    ++ three_more entered days.three_days (end_of_period entered days.direction days.trigger days.period))

-- Periods of hours.

-- from a day on to the same time on the first accessible business day (6(a)(2)(C), 6(a)(3)(B))
abbrev pub hours_on : Entered → ZoneRules → Direction → ℕ → ℕ → List Step
hours_on entered zone direction instant from =
    passed (hour_causes entered zone direction instant) from (first_accessible entered zone direction instant from)
    ++ step.Ends (Moment (pos (same_time_on zone instant (first_accessible entered zone direction instant from)))) ∷ []

abbrev pub from_last_hour : Entered → ZoneRules → ℕ → ℕ → List Step
from_last_hour entered zone instant last =
    if is_accessible entered zone (same_time_on zone instant last)
    then step.Ends (Moment (pos (same_time_on zone instant last))) ∷ []
    else step.Moved (Moment (pos (same_time_on zone instant last))) ∷ hours_on entered zone Backward instant (last + 1)

abbrev pub hours_back : Entered → ZoneRules → ℕ → ℕ → List Step
hours_back entered zone instant from =
    passed_back (business_causes entered Backward) from (last_business entered from)
    ++ from_last_hour entered zone instant (last_business entered from)

abbrev pub hours_from : Entered → ZoneRules → Direction → ℕ → List Step
hours_from entered zone Forward instant = hours_on entered zone Forward instant (local_day zone instant)
hours_from entered zone Backward instant = hours_back entered zone instant (local_day zone instant)

-- the moment to which hours are counted (6(a)(2)(A), (B))
abbrev pub hours_away : Direction → ℕ → ℕ → ℕ
hours_away Forward instant hours = instant + 3600 * hours
hours_away Backward instant hours = instant - 3600 * hours

abbrev pub steps_of_hours : Entered → ZoneRules → HourPeriod → List Step
steps_of_hours entered zone hours =
    step.Hours hours
    ∷ step.Counted (Moment (pos (hours_away hours.direction (seconds hours.at) hours.hours)))
    ∷ hours_from entered zone hours.direction (hours_away hours.direction (seconds hours.at) hours.hours)

-- Acts.

-- an extension by days counts them from the last day of a time that runs (6(b)(1))
abbrev pub extended : ZoneRules → Entered → ℕ → Standing → List Step
extended zone entered days (standing.Running end) =
    step.Extended (last_day zone end) days ∷ way entered Forward (last_day zone end + days)
extended zone entered days _ = []

-- the steps of a period that begins
abbrev pub steps_of_start : ZoneRules → Entered → Start → List Step
steps_of_start zone entered (start.Days days) = steps_of_days entered days
steps_of_start zone entered (start.Hours hours) = steps_of_hours entered zone hours

-- the steps of the 14 days after a ruling on a motion, or after a statement (12(a)(4))
abbrev pub steps_of_resumed : Entered → ℕ → Bool → List Step
steps_of_resumed entered day three =
    step.Resumed day three
    ∷ (way entered Forward (day + 14) ++ three_more entered three (end_of_days entered Forward day 14))

-- the steps of an act, by where the deadline stood before it
abbrev pub steps_of_act : ZoneRules → Entered → Standing → Act → List Step
steps_of_act zone entered before (act.Start start) = steps_of_start zone entered start
steps_of_act zone entered before (act.Fixed day) = step.Fixed day ∷ []
steps_of_act zone entered before (act.ExtendBy days) = extended zone entered days before
steps_of_act zone entered before (act.ExtendTo day) = step.ExtendedTo day ∷ []
steps_of_act zone entered before (act.Motion served kind) = step.Motion served kind ∷ []
steps_of_act zone entered before (act.Resume day three) = steps_of_resumed entered day three
steps_of_act zone entered before (act.AwaitStatement notice) = step.Awaited notice ∷ []
steps_of_act zone entered before (act.Done at way) = step.Done at way ∷ []
steps_of_act zone entered before act.Vacated = step.Vacated ∷ []

-- the steps of acts in order, and where the deadline stands after them
abbrev pub steps_through : ZoneRules → Entered → Standing → List Act → List Step
steps_through zone entered before [] = step.Stands before ∷ []
steps_through zone entered before (act ∷ acts) =
    steps_of_act zone entered before act ++ steps_through zone entered (standing_after zone entered before act) acts

-- the steps by which the standing of a deadline is found
abbrev pub steps_of : ZoneRules → Entered → List Act → List Step
steps_of zone entered acts = steps_through zone entered standing.Vacated acts
