-- The ends of periods of hours as functions.
use Rattle.std.specs.Prelude.{ℕ, ◌+◌, ◌-◌, ◌*◌, Bool, not, ◌&&◌, if◌then◌else◌}
use Rattle.std.specs.FinSet.{contains}
use Rattle.civil_time.specs.LocalTime.{local_day}
use Rattle.civil_time.specs.Zone.{ZoneRules}
use Rattle.court_days.specs.Calendar.{Entered}
use Rattle.court_days.specs.Ends.{first_day, last_business}
use Rattle.court_days.specs.Hours.{same_time_on}
use Rattle.court_days.specs.Legal.{is_business_day}
use Rattle.court_days.specs.Spans.{meets}
use Rattle.court_days.specs.declared.calendar.Direction.{Direction}
use Rattle.court_days.specs.declared.calendar.Direction.TheVariants.{Forward, Backward}

-- whether the clerk's office was accessible throughout the hour up to the instant. An hour lies on the local days of its
-- first and of its last second
unfoldable pub is_accessible : Entered → ZoneRules → ℕ → Bool
is_accessible entered zone end =
    (not (contains entered.closed (local_day zone (end - 3600))) && not (contains entered.closed (local_day zone (end - 1))))
    && not (meets entered.spans (end - 3600) end)

-- whether the day is a business day with the office accessible in the hour before that time
unfoldable pub is_accessible_day : Entered → ZoneRules → Direction → ℕ → ℕ → Bool
is_accessible_day entered zone direction instant day =
    is_business_day entered direction day && is_accessible entered zone (same_time_on zone instant day)

-- the first such day from a day on; the search of 50,000 days always finds one
abbrev pub first_accessible : Entered → ZoneRules → Direction → ℕ → ℕ → ℕ
first_accessible entered zone direction instant start =
    first_day (is_accessible_day entered zone direction instant) 50_000 start

-- the same time on that day
unfoldable pub forward_end : Entered → ZoneRules → Direction → ℕ → ℕ → ℕ
forward_end entered zone direction instant start =
    same_time_on zone instant (first_day (is_accessible_day entered zone direction instant) 50_000 start)

-- the same time on the last business day, or where the period moves from there
unfoldable pub moved_end : Entered → ZoneRules → ℕ → ℕ → ℕ
moved_end entered zone instant last =
    if is_accessible entered zone (same_time_on zone instant last) then same_time_on zone instant last
    else forward_end entered zone Backward instant (last + 1)

-- the end of a period of that many hours
unfoldable pub end_of_hours : Entered → ZoneRules → Direction → ℕ → ℕ → ℕ
end_of_hours entered zone Forward start hours =
    let instant = start + 3600 * hours in forward_end entered zone Forward instant (local_day zone instant)
end_of_hours entered zone Backward start hours =
    let instant = start - 3600 * hours in moved_end entered zone instant (last_business entered (local_day zone instant))
