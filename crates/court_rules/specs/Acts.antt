-- The acts of a deadline: what they may hold, and the order in which they may come.
use Rattle.std.specs.Prelude.{ℕ, Bool, true, false, not, ◌&&◌, ◌||◌, nat_le, List, [], ◌∷◌, length, Option, Some, None, is_some, ℤ, pos, int_le}
use Rattle.std.specs.List.{list_all}
use Rattle.std.specs.Option.{option_and_then}
use Rattle.court_days.specs.declared.calendar.Direction.{Direction}
use Rattle.court_days.specs.declared.calendar.Direction.TheVariants.{Forward, Backward}
use Rattle.court_rules.specs.declared.table.Period.{Period}
use Rattle.court_rules.specs.declared.table.Period.TheVariants as period
use Rattle.court_rules.specs.declared.act.Act.{Act}
use Rattle.court_rules.specs.declared.act.Act.TheVariants as act
use Rattle.court_rules.specs.declared.act.Start.{Start}
use Rattle.court_rules.specs.declared.act.Start.TheVariants as start
use Rattle.court_rules.specs.declared.order.Phase.{Phase}
use Rattle.court_rules.specs.declared.order.Phase.TheVariants.{Unmade, Running, Suspended, Awaiting, Ended}
use Rattle.court_days.specs.Limits.{first_entered_day, first_entered_instant, last_entered_day, last_entered_instant}

-- from 2000-01-01 to 2099-12-31, a day that a court may enter
abbrev pub is_entered_day : ℕ → Bool
is_entered_day day = nat_le first_entered_day day && nat_le day last_entered_day

-- from 1999-12-31T00:00Z to 2100-01-02T00:00Z: each instant whose day in some zone may be entered is one of these
abbrev pub is_instant : ℤ → Bool
is_instant at = int_le (pos first_entered_instant) at && int_le at (pos last_entered_instant)

-- from a day to 3650 days, or from a month to 120 months
abbrev pub is_period : Period → Bool
is_period (period.Days count) = nat_le 1 count && nat_le count 3650
is_period (period.Months count) = nat_le 1 count && nat_le count 120

abbrev pub is_forward : Direction → Bool
is_forward Forward = true
is_forward Backward = false

-- a period of days or months begins on a day that may be entered, and service adds three days to it only where it is counted
-- forward, after being served (Fed. R. Civ. P. 6(d)); a period of hours begins at an instant, and has from 1 to 8760 of them
abbrev pub is_start : Start → Bool
is_start (start.Days days) =
    is_entered_day days.trigger && is_period days.period && (not days.three_days || is_forward days.direction)
is_start (start.Hours hours) = is_instant hours.at && (nat_le 1 hours.hours && nat_le hours.hours 8760)

-- what the act holds is within its limits
abbrev pub is_within : Act → Bool
is_within (act.Start start) = is_start start
is_within (act.Fixed day) = is_entered_day day
is_within (act.ExtendBy days) = is_period (period.Days days)
is_within (act.ExtendTo day) = is_entered_day day
is_within (act.Motion served kind) = is_entered_day served
is_within (act.Resume day three) = is_entered_day day
is_within (act.AwaitStatement notice) = is_entered_day notice
is_within (act.Done at way) = is_instant at
is_within act.Vacated = true

-- Where a deadline stands after an act, by where it stood before; no other act may come.
abbrev pub phase_after : Phase → Act → Option Phase
-- a deadline is made by a period that begins, or by a day to act that the court sets
phase_after Unmade (act.Start start) = Some Running
phase_after Unmade (act.Fixed day) = Some Running
-- the court may extend a time that runs (Fed. R. Civ. P. 6(b))
phase_after Running (act.ExtendBy days) = Some Running
phase_after Running (act.ExtendTo day) = Some Running
-- a rule 12 motion suspends it (12(a)(4)), until notice of the ruling or the day that the court sets instead
phase_after Running (act.Motion served kind) = Some Suspended
phase_after Suspended (act.Resume day three) = Some Running
phase_after Suspended (act.Fixed day) = Some Running
-- or, where the court orders a more definite statement, until that is served (12(a)(4)(B))
phase_after Suspended (act.AwaitStatement notice) = Some Awaiting
phase_after Awaiting (act.Resume day three) = Some Running
-- what was due is done, or the deadline is vacated: nothing comes after that
phase_after Running (act.Done at way) = Some Ended
phase_after Suspended (act.Done at way) = Some Ended
phase_after Awaiting (act.Done at way) = Some Ended
phase_after Running act.Vacated = Some Ended
phase_after Suspended act.Vacated = Some Ended
phase_after Awaiting act.Vacated = Some Ended
phase_after _ _ = None

-- where it stands after acts in order; none where one of them may not come
abbrev pub phase_through : Phase → List Act → Option Phase
phase_through phase [] = Some phase
phase_through phase (act ∷ acts) = option_and_then (λ next. phase_through next acts) (phase_after phase act)

-- these may be the acts of a deadline: from 1 to 100, each within its limits, each where it may come
abbrev pub acts_ok : List Act → Bool
acts_ok acts =
    (nat_le 1 (length acts) && nat_le (length acts) 100)
    && list_all is_within acts
    && is_some (phase_through Unmade acts)
