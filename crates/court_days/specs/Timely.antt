-- When a filing is in time.
use Rattle.std.specs.Prelude.{◌≡◌, ℕ, ◌<◌, ◌≤◌, ◌⊎◌, ◌==◌, Bool, ◌&&◌, ◌||◌, nat_lt, nat_le, min, ℤ, ◌≤ℤ◌, int_le, Option, Some, None}
use Rattle.civil_time.specs.LocalTime.{local_day, local_minute, seconds}
use Rattle.court_days.specs.Calendar.{Entered, short_close}
use Rattle.court_days.specs.Court.{CourtSettings, zone_of}
use Rattle.court_days.specs.declared.filing.End.{End}
use Rattle.court_days.specs.declared.filing.End.TheVariants.{LastDay, Moment}
use Rattle.court_days.specs.declared.filing.Way.{Way}
use Rattle.court_days.specs.declared.filing.Way.TheVariants.{Electronic, Office}

-- the lesser of two minutes of the day, where there is a second one
abbrev pub earlier : ℕ → Option ℕ → ℕ
earlier close None = close
earlier close (Some minute) = min close minute

-- the minute at which the clerk's office is scheduled to close on the day: the court's, or an earlier one on a short day
abbrev pub closing : CourtSettings → Entered → ℕ → ℕ
closing court entered day = earlier court.close_minute (short_close entered day)

-- the local day and minute, compared in this order, are at most that day and its closing minute
abbrev pub IsByClosing : CourtSettings → Entered → ℕ → ℕ → Type 0
IsByClosing court entered last instant =
    (local_day (zone_of court) instant < last)
    ⊎ ((local_day (zone_of court) instant ≡ last) × (local_minute (zone_of court) instant ≤ closing court entered last))

-- the last day ends at midnight in the court's zone for electronic filing, and when the clerk's office is scheduled to
-- close for other filing (Fed. R. Civ. P. 6(a)(4))
abbrev pub IsTimely : CourtSettings → Entered → End → ℤ → Way → Type 0
IsTimely court entered (LastDay last) at Electronic = local_day (zone_of court) (seconds at) ≤ last
IsTimely court entered (LastDay last) at Office = IsByClosing court entered last (seconds at)
IsTimely court entered (Moment moment) at way = at ≤ℤ moment

-- the same as tests
abbrev pub is_by_closing : CourtSettings → Entered → ℕ → ℕ → Bool
is_by_closing court entered last instant =
    nat_lt (local_day (zone_of court) instant) last
    || ((local_day (zone_of court) instant == last)
    && nat_le (local_minute (zone_of court) instant) (closing court entered last))

abbrev pub is_timely : CourtSettings → Entered → End → ℤ → Way → Bool
is_timely court entered (LastDay last) at Electronic = nat_le (local_day (zone_of court) (seconds at)) last
is_timely court entered (LastDay last) at Office = is_by_closing court entered last (seconds at)
is_timely court entered (Moment moment) at way = int_le at moment
