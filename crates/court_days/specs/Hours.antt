-- The ends of periods of hours, as relations. Instants are in seconds since 1970-01-01T00:00Z.
use Rattle.std.specs.Prelude.{◌≡◌, ℕ, true, ◌+◌, ◌-◌, ◌*◌, ◌%◌, ◌==◌, ◌<◌, ◌≤◌, ◌⊎◌, if◌then◌else◌}
use Rattle.std.specs.FinSet.{contains}
use Rattle.civil_time.specs.LocalTime.{local_time, local_day, instant_of}
use Rattle.civil_time.specs.Zone.{ZoneRules}
use Rattle.court_days.specs.Calendar.{Entered, Holds}
use Rattle.court_days.specs.Legal.{IsBusinessDay}
use Rattle.court_days.specs.Period.{IsFirstFrom, IsLastUpTo}
use Rattle.court_days.specs.declared.calendar.DayKind.TheVariants.{Closed}
use Rattle.court_days.specs.declared.calendar.Direction.{Direction}
use Rattle.court_days.specs.declared.calendar.Direction.TheVariants.{Forward, Backward}
use Rattle.court_days.specs.declared.span_set.Span.{Span}

-- the instant lies in an entered span
abbrev pub IsInSpan : Entered → ℕ → Type 0
IsInSpan entered instant =
    (span : Span) × (contains entered.spans span ≡ true) × (span.start ≤ instant) × (instant < span.end)

-- the clerk's office was inaccessible at the instant: on a closed day, or in a span
abbrev pub IsShut : Entered → ZoneRules → ℕ → Type 0
IsShut entered zone instant = Holds entered Closed (local_day zone instant) ⊎ IsInSpan entered instant

-- it was accessible throughout the hour up to, but not with, the instant (Fed. R. Civ. P. 6(a)(3)(B))
abbrev pub IsAccessible : Entered → ZoneRules → ℕ → Type 0
IsAccessible entered zone end =
    (instant : ℕ) → end - 3600 ≤ instant → instant < end → ¬ (IsShut entered zone instant)

-- the same time on a day: the instant itself on its own day, and else the instant of the same local time (6(a)(2)(C)); by
-- this project's choice the earlier of two where the clock is put back, and the later where it is put forward
unfoldable pub same_time_on : ZoneRules → ℕ → ℕ → ℕ
same_time_on zone instant day =
    if day == local_day zone instant then instant
    else instant_of zone (86_400 * day + local_time zone instant % 86_400)

-- a business day, with the office accessible in the hour before that time
abbrev pub IsAccessibleDay : Entered → ZoneRules → Direction → ℕ → ℕ → Type 0
IsAccessibleDay entered zone direction instant day =
    IsBusinessDay entered direction day × IsAccessible entered zone (same_time_on zone instant day)

-- the period runs to the same time on the first such day from a day on
abbrev pub RunsForward : Entered → ZoneRules → Direction → ℕ → ℕ → ℕ → Type 0
RunsForward entered zone direction instant start end =
    (day : ℕ) × IsFirstFrom (IsAccessibleDay entered zone direction instant) start day
    × (end ≡ same_time_on zone instant day)

-- at the same time on the last business day; where the office was not accessible then, on the first accessible day after
-- it: the time for filing is extended, so it moves forward, by this project's choice even past the event (6(a)(3)(B))
abbrev pub MovesIfShut : Entered → ZoneRules → ℕ → ℕ → ℕ → Type 0
MovesIfShut entered zone instant last end =
    (IsAccessible entered zone (same_time_on zone instant last) × (end ≡ same_time_on zone instant last))
    ⊎ (¬ (IsAccessible entered zone (same_time_on zone instant last))
    × RunsForward entered zone Backward instant (last + 1) end)

-- the period runs back to the last business day, or moves from there
abbrev pub RunsBackward : Entered → ZoneRules → ℕ → ℕ → Type 0
RunsBackward entered zone instant end =
    (last : ℕ) × IsLastUpTo (IsBusinessDay entered Backward) (local_day zone instant) last
    × MovesIfShut entered zone instant last end

-- the end of a period of that many hours: every hour counts from the instant on, or back from it (6(a)(2)(A), (B)), and
-- then the period runs on to a business day (6(a)(2)(C)) with the office accessible (6(a)(3)(B))
abbrev pub IsEndOfHours : Entered → ZoneRules → Direction → ℕ → ℕ → ℕ → Type 0
IsEndOfHours entered zone Forward start hours end =
    let instant = start + 3600 * hours in RunsForward entered zone Forward instant (local_day zone instant) end
IsEndOfHours entered zone Backward start hours end = RunsBackward entered zone (start - 3600 * hours) end

-- where the ends of periods lie that begin on a day that may be entered: from 1998-12-18 to 2101-01-24
abbrev pub IsNearEntered : ℕ → Type 0
IsNearEntered instant = (914_000_000 ≤ instant) × (instant ≤ 4_136_000_000)
