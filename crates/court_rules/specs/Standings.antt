-- Where a deadline stands, and until when.
use Rattle.std.specs.Prelude.{◌≡◌, ℕ, ◌+◌, ◌*◌, ◌≤◌, Bool, true, is_some, List, [], ◌∷◌, pos}
use Rattle.std.specs.List.{list_all}
use Rattle.court_days.specs.LocalTime.{local_day, seconds}
use Rattle.court_days.specs.Zone.{ZoneRules}
use Rattle.court_days.specs.Calendar.{Entered}
use Rattle.court_days.specs.Ends.{end_of_days}
use Rattle.court_days.specs.HourEnds.{end_of_hours}
use Rattle.court_days.specs.Hours.{IsNearEntered}
use Rattle.court_days.specs.declared.calendar.Direction.TheVariants.{Forward}
use Rattle.court_days.specs.declared.filing.End.{End}
use Rattle.court_days.specs.declared.filing.End.TheVariants.{LastDay, Moment}
use Rattle.court_rules.specs.declared.act.Act.{Act}
use Rattle.court_rules.specs.declared.act.Act.TheVariants as act
use Rattle.court_rules.specs.declared.act.Start.{Start}
use Rattle.court_rules.specs.declared.act.Start.TheVariants as start
use Rattle.court_rules.specs.declared.act.Standing.{Standing}
use Rattle.court_rules.specs.declared.act.Standing.TheVariants.{Running, Suspended, Awaiting, Done, Vacated}
use Rattle.court_rules.specs.declared.order.Phase.{Phase}
use Rattle.court_rules.specs.declared.order.Phase.TheVariants as phase
use Rattle.court_rules.specs.Acts.{is_entered_day, phase_after, acts_ok}
use Rattle.court_rules.specs.Ends.{end_of_period, end_after_service}
use Rattle.court_days.specs.Limits.{last_local_day}

-- the end of a period (Fed. R. Civ. P. 6(a)(1), (2)), with the three days that service adds, if it does (6(d))
abbrev pub end_of_start : ZoneRules → Entered → Start → End
end_of_start zone entered (start.Days days) =
    LastDay (end_after_service entered days.three_days (end_of_period entered days.direction days.trigger days.period))
end_of_start zone entered (start.Hours hours) =
    Moment (pos (end_of_hours entered zone hours.direction (seconds hours.at) hours.hours))

-- the last day of a time: that of an instant is its local day
abbrev pub last_day : ZoneRules → End → ℕ
last_day zone (LastDay day) = day
last_day zone (Moment at) = local_day zone (seconds at)

-- a time that runs is extended by days counted forward from its last day, by the rules of a period (6(b), 6(a)(1))
abbrev pub extended_by : ZoneRules → Entered → ℕ → Standing → Standing
extended_by zone entered days (Running end) = Running (LastDay (end_of_days entered Forward (last_day zone end) days))
extended_by zone entered days standing = standing

-- after a ruling or a statement, the time for a responsive pleading is 14 days from the notice, or from service of the
-- statement (12(a)(4)), with the three days that service adds, if it does
abbrev pub resumed_end : Entered → ℕ → Bool → ℕ
resumed_end entered day three = end_after_service entered three (end_of_days entered Forward day 14)

-- where a deadline stands after an act, by where it stood before; a day that the court sets neither moves to a business day,
-- nor is moved where the clerk's office is closed (6(a) computes no time for a day that was set)
abbrev pub standing_after : ZoneRules → Entered → Standing → Act → Standing
standing_after zone entered before (act.Start start) = Running (end_of_start zone entered start)
standing_after zone entered before (act.Fixed day) = Running (LastDay day)
standing_after zone entered before (act.ExtendBy days) = extended_by zone entered days before
standing_after zone entered before (act.ExtendTo day) = Running (LastDay day)
standing_after zone entered before (act.Motion served kind) = Suspended
standing_after zone entered before (act.Resume day three) = Running (LastDay (resumed_end entered day three))
standing_after zone entered before (act.AwaitStatement notice) = Awaiting
standing_after zone entered before (act.Done at way) = Done
standing_after zone entered before act.Vacated = Vacated

-- where it stands after acts in order
abbrev pub standing_through : ZoneRules → Entered → Standing → List Act → Standing
standing_through zone entered before [] = before
standing_through zone entered before (act ∷ acts) =
    standing_through zone entered (standing_after zone entered before act) acts

-- where a deadline stands by its acts. Its first act makes it, so it does not matter where it stood before
abbrev pub standing : ZoneRules → Entered → List Act → Standing
standing zone entered acts = standing_through zone entered Vacated acts

-- where a period of hours begins, the local day at the instant is one that a court may enter
abbrev pub begins_on_entered_day : ZoneRules → Act → Bool
begins_on_entered_day zone (act.Start (start.Hours hours)) = is_entered_day (local_day zone (seconds hours.at))
begins_on_entered_day zone _ = true

-- these may be the acts of a deadline in a court of that zone
abbrev pub AreActs : ZoneRules → List Act → Type 0
AreActs zone acts = (acts_ok acts ≡ true) × (list_all (begins_on_entered_day zone) acts ≡ true)

-- where the end lies after that many acts: a last day is at most so late, since each act moves it by at most ten years and
-- some days; the instants at which periods of hours end lie near the days that may be entered
abbrev pub IsEndAfter : ℕ → End → Type 0
IsEndAfter count (LastDay day) = day ≤ last_local_day + 3737 * count
IsEndAfter count (Moment at) = IsNearEntered (seconds at)

abbrev pub StandsAfter : ℕ → Standing → Type 0
StandsAfter count (Running end) = IsEndAfter count end
StandsAfter count _ = Unit {0}

-- the phase of a standing, in the table of lawful orders
abbrev pub phase_of : Standing → Phase
phase_of (Running end) = phase.Running
phase_of Suspended = phase.Suspended
phase_of Awaiting = phase.Awaiting
phase_of Done = phase.Ended
phase_of Vacated = phase.Ended

-- the act may come where the deadline stands so
abbrev pub may_come : Standing → Act → Bool
may_come standing act = is_some (phase_after (phase_of standing) act)

-- the act may be the first of a deadline
abbrev pub may_begin : Act → Bool
may_begin act = is_some (phase_after phase.Unmade act)
