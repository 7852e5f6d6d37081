-- What the steps of a deadline say, as relations: which days are passed over and why, where each period ends, and where the
-- deadline stands after each act.
use Rattle.std.specs.Prelude.{◌≡◌, ℕ, ◌+◌, ◌⊎◌, Bool, true, false, List, [], ◌∷◌, ◌++◌, pos}
use Rattle.civil_time.specs.LocalTime.{local_day, seconds}
use Rattle.civil_time.specs.Months.{IsMonthsAfter}
use Rattle.civil_time.specs.Zone.{ZoneRules}
use Rattle.court_days.specs.Calendar.{Entered}
use Rattle.court_days.specs.Hours.{IsAccessible, IsAccessibleDay, same_time_on}
use Rattle.court_days.specs.Legal.{IsBusinessDay, IsOpen, IsOpenBusinessDay}
use Rattle.court_days.specs.Period.{IsFirstFrom, IsLastUpTo, days_away, shift}
use Rattle.court_days.specs.declared.calendar.Direction.{Direction}
use Rattle.court_days.specs.declared.calendar.Direction.TheVariants.{Forward, Backward}
use Rattle.court_days.specs.declared.filing.End.TheVariants.{LastDay, Moment}
use Rattle.court_rules.specs.declared.act.Act.{Act}
use Rattle.court_rules.specs.declared.act.Act.TheVariants as act
use Rattle.court_rules.specs.declared.act.DayPeriod.{DayPeriod}
use Rattle.court_rules.specs.declared.act.HourPeriod.{HourPeriod}
use Rattle.court_rules.specs.declared.act.Start.{Start}
use Rattle.court_rules.specs.declared.act.Start.TheVariants as start
use Rattle.court_rules.specs.declared.act.Standing.{Standing}
use Rattle.court_rules.specs.declared.act.Standing.TheVariants.{Running, Suspended, Awaiting, Done, Vacated}
use Rattle.court_rules.specs.declared.table.Period.{Period}
use Rattle.court_rules.specs.declared.table.Period.TheVariants as period
use Rattle.court_rules.specs.Standings.{last_day, standing_after}
use Rattle.court_reasons.specs.declared.step.Step.{Step}
use Rattle.court_reasons.specs.declared.step.Step.TheVariants as step
use Rattle.court_reasons.specs.Passing.{AreDayCauses, AreBackCauses, AreHourCauses, IsPassed, NamesDays, NamesDaysBack}
use Rattle.court_reasons.specs.Steps.{hours_away}

-- the way on from a day: each day before the first open business day is passed over, and the period ends on that
-- (Fed. R. Civ. P. 6(a)(1)(C), 6(a)(3)(A))
pub record GoesOn (entered : Entered) (direction : Direction) (from end : ℕ) (steps : List Step) : Type 0 where
  pub days : List Step
  pub named : NamesDays (IsPassed (AreDayCauses entered direction)) from end days
  pub ends : IsFirstFrom (IsOpenBusinessDay entered direction) from end
  pub are : steps ≡ days ++ step.Ends (LastDay end) ∷ []

-- from the last business day: the period ends on it, or the office was closed and the time moves forward (6(a)(3)(A))
abbrev pub GoesFromLast : Entered → ℕ → ℕ → List Step → Type 0
GoesFromLast entered last end steps =
    (IsOpen entered last × (end ≡ last) × (steps ≡ step.Ends (LastDay last) ∷ []))
    ⊎ (¬ (IsOpen entered last)
    × ((on : List Step) × GoesOn entered Backward (last + 1) end on × (steps ≡ step.Moved (LastDay last) ∷ on)))

-- the way back from a day: each day after the last business day is passed over (6(a)(5))
pub record GoesBack (entered : Entered) (from end : ℕ) (steps : List Step) : Type 0 where
  pub last : ℕ
  pub days : List Step
  pub on : List Step
  pub is_last : IsLastUpTo (IsBusinessDay entered Backward) from last
  pub named : NamesDaysBack (IsPassed (AreBackCauses entered Backward)) from last days
  pub goes : GoesFromLast entered last end on
  pub are : steps ≡ days ++ on

-- the way from the day to which a period is counted to its end
abbrev pub Goes : Entered → Direction → ℕ → ℕ → List Step → Type 0
Goes entered Forward from end steps = GoesOn entered Forward from end steps
Goes entered Backward from end steps = GoesBack entered from end steps

-- the period is counted to that day (6(a)(1)(A), (B))
abbrev pub IsCountedTo : Direction → ℕ → Period → ℕ → Type 0
IsCountedTo direction trigger (period.Days count) from = from ≡ days_away direction trigger count
IsCountedTo direction trigger (period.Months count) from = IsMonthsAfter trigger (shift direction count) from

-- service adds three days after the period would otherwise end, and the way goes on from there; or it adds none (6(d))
abbrev pub AddsThree : Entered → Bool → ℕ → ℕ → List Step → Type 0
AddsThree entered true before end steps =
    (on : List Step) × GoesOn entered Forward (before + 3) end on × (steps ≡ step.ThreeAdded (before + 3) ∷ on)
AddsThree entered false before end steps = (end ≡ before) × (steps ≡ [])

-- a period is counted to a day, and ends where the way from there and the days that service adds lead
pub record Counts (entered : Entered) (direction : Direction) (from : ℕ) (three : Bool) (end : ℕ) (steps : List Step) : Type 0 where
  pub before : ℕ
  pub way : List Step
  pub more : List Step
  pub goes : Goes entered direction from before way
  pub adds : AddsThree entered three before end more
  pub are : steps ≡ step.Counted (LastDay from) ∷ (way ++ more)

-- Periods of hours.

-- the way on from a day: each day before the first accessible business day is passed over, and the period ends at the same
-- time on that (6(a)(2)(C), 6(a)(3)(B))
pub record HoursGoOn (entered : Entered) (zone : ZoneRules) (direction : Direction) (instant from end : ℕ) (steps : List Step) : Type 0 where
  pub day : ℕ
  pub days : List Step
  pub named : NamesDays (IsPassed (AreHourCauses entered zone direction instant)) from day days
  pub first : IsFirstFrom (IsAccessibleDay entered zone direction instant) from day
  pub ends : end ≡ same_time_on zone instant day
  pub are : steps ≡ days ++ step.Ends (Moment (pos end)) ∷ []

-- from the last business day: the period ends at the same time on it, or the office was not accessible then and the time
-- moves forward (6(a)(3)(B))
abbrev pub HoursGoFromLast : Entered → ZoneRules → ℕ → ℕ → ℕ → List Step → Type 0
HoursGoFromLast entered zone instant last end steps =
    let found = same_time_on zone instant last in
    (IsAccessible entered zone found × (end ≡ found) × (steps ≡ step.Ends (Moment (pos found)) ∷ []))
    ⊎ (¬ (IsAccessible entered zone found)
    × ((on : List Step) × HoursGoOn entered zone Backward instant (last + 1) end on × (steps ≡ step.Moved (Moment (pos found)) ∷ on)))

-- the way back from the day of the moment to the last business day (6(a)(5))
pub record HoursGoBack (entered : Entered) (zone : ZoneRules) (instant end : ℕ) (steps : List Step) : Type 0 where
  pub last : ℕ
  pub days : List Step
  pub on : List Step
  pub is_last : IsLastUpTo (IsBusinessDay entered Backward) (local_day zone instant) last
  pub named : NamesDaysBack (IsPassed (AreBackCauses entered Backward)) (local_day zone instant) last days
  pub goes : HoursGoFromLast entered zone instant last end on
  pub are : steps ≡ days ++ on

-- the way from the moment to which hours are counted to their end
abbrev pub HoursGo : Entered → ZoneRules → Direction → ℕ → ℕ → List Step → Type 0
HoursGo entered zone Forward instant end steps =
    HoursGoOn entered zone Forward instant (local_day zone instant) end steps
HoursGo entered zone Backward instant end steps = HoursGoBack entered zone instant end steps

-- Acts.

-- the steps of a period that begins: of days or months (6(a)(1)), and of hours (6(a)(2))
pub record ExplainsDays (entered : Entered) (days : DayPeriod) (end : ℕ) (steps : List Step) : Type 0 where
  pub from : ℕ
  pub rest : List Step
  pub counted : IsCountedTo days.direction days.trigger days.period from
  pub counts : Counts entered days.direction from days.three_days end rest
  pub are : steps ≡ step.Period days ∷ rest

pub record ExplainsHours (entered : Entered) (zone : ZoneRules) (hours : HourPeriod) (end : ℕ) (steps : List Step) : Type 0 where
  pub way : List Step
  pub goes : HoursGo entered zone hours.direction (hours_away hours.direction (seconds hours.at) hours.hours) end way
  pub are : steps
      ≡ step.Hours hours
      ∷ step.Counted (Moment (pos (hours_away hours.direction (seconds hours.at) hours.hours))) ∷ way

abbrev pub ExplainsStart : ZoneRules → Entered → Start → Standing → List Step → Type 0
ExplainsStart zone entered (start.Days days) after steps =
    (end : ℕ) × ExplainsDays entered days end steps × (after ≡ Running (LastDay end))
ExplainsStart zone entered (start.Hours hours) after steps =
    (end : ℕ) × ExplainsHours entered zone hours end steps × (after ≡ Running (Moment (pos end)))

-- an extension by days: they are counted from the last day of a time that runs, and the way goes on from there (6(b)(1))
abbrev pub ExplainsExtension : ZoneRules → Entered → ℕ → Standing → Standing → List Step → Type 0
ExplainsExtension zone entered days (Running time) after steps =
    (end : ℕ) × (way : List Step) × GoesOn entered Forward (last_day zone time + days) end way
    × (after ≡ Running (LastDay end))
    × (steps ≡ step.Extended (last_day zone time) days ∷ step.Counted (LastDay (last_day zone time + days)) ∷ way)
ExplainsExtension zone entered days before after steps = (after ≡ before) × (steps ≡ [])

-- the time that runs again: 14 days from the notice, or from service of the statement (12(a)(4))
abbrev pub ExplainsResumed : Entered → ℕ → Bool → Standing → List Step → Type 0
ExplainsResumed entered day three after steps =
    (end : ℕ) × (rest : List Step) × Counts entered Forward (day + 14) three end rest
    × (after ≡ Running (LastDay end)) × (steps ≡ step.Resumed day three ∷ rest)

-- the steps of an act, by where the deadline stood before it and where it stands after it: where the act sets a time, the end
-- of its steps is the end of that time
abbrev pub ExplainsAct : ZoneRules → Entered → Standing → Act → Standing → List Step → Type 0
ExplainsAct zone entered before (act.Start start) after steps = ExplainsStart zone entered start after steps
ExplainsAct zone entered before (act.Fixed day) after steps =
    (after ≡ Running (LastDay day)) × (steps ≡ step.Fixed day ∷ [])
ExplainsAct zone entered before (act.ExtendBy days) after steps =
    ExplainsExtension zone entered days before after steps
ExplainsAct zone entered before (act.ExtendTo day) after steps =
    (after ≡ Running (LastDay day)) × (steps ≡ step.ExtendedTo day ∷ [])
ExplainsAct zone entered before (act.Motion served kind) after steps =
    (after ≡ Suspended) × (steps ≡ step.Motion served kind ∷ [])
ExplainsAct zone entered before (act.Resume day three) after steps = ExplainsResumed entered day three after steps
ExplainsAct zone entered before (act.AwaitStatement notice) after steps =
    (after ≡ Awaiting) × (steps ≡ step.Awaited notice ∷ [])
ExplainsAct zone entered before (act.Done at way) after steps = (after ≡ Done) × (steps ≡ step.Done at way ∷ [])
ExplainsAct zone entered before act.Vacated after steps = (after ≡ Vacated) × (steps ≡ step.Vacated ∷ [])

-- the steps explain the acts, each in its turn, and at last where the deadline stands after them, as `due` gives it
abbrev pub Explains : ZoneRules → Entered → Standing → List Act → List Step → Type 0
Explains zone entered before [] steps = steps ≡ step.Stands before ∷ []
Explains zone entered before (act ∷ acts) steps =
    (own rest : List Step) × ExplainsAct zone entered before act (standing_after zone entered before act) own
    × Explains zone entered (standing_after zone entered before act) acts rest × (steps ≡ own ++ rest)
