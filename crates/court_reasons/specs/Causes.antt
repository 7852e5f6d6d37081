-- Why a day is passed over, as functions.
use Rattle.std.specs.Prelude.{ℕ, ◌==◌, Bool, true, false, not, ◌&&◌}
use Rattle.std.specs.FinSet.{contains}
use Rattle.civil_time.specs.Civil.{weekday}
use Rattle.civil_time.specs.Zone.{ZoneRules}
use Rattle.court_days.specs.Calendar.{Entered}
use Rattle.court_days.specs.HourEnds.{is_accessible}
use Rattle.court_days.specs.Hours.{same_time_on}
use Rattle.court_days.specs.declared.calendar.Direction.{Direction}
use Rattle.court_days.specs.declared.calendar.Direction.TheVariants.{Forward, Backward}
use Rattle.court_reasons.specs.declared.cause.Causes.{Causes}
use Rattle.court_reasons.specs.Statutory.{statutory_holiday}

-- whether the period is measured after an event
abbrev pub is_forward : Direction → Bool
is_forward Forward = true
is_forward Backward = false

-- why the day is no business day for periods of that direction
abbrev pub business_causes : Entered → Direction → ℕ → Causes
business_causes entered direction day = record {
  saturday = weekday day == 6;
  sunday = weekday day == 0;
  statutory = statutory_holiday day;
  federal = contains entered.federal day;
  state = is_forward direction && contains entered.state day;
  closed = false;
  inaccessible = false;
}

-- why no period of days ends on the day, where a day for filing is looked for
abbrev pub day_causes : Entered → Direction → ℕ → Causes
day_causes entered direction day = record {
  saturday = weekday day == 6;
  sunday = weekday day == 0;
  statutory = statutory_holiday day;
  federal = contains entered.federal day;
  state = is_forward direction && contains entered.state day;
  closed = contains entered.closed day;
  inaccessible = false;
}

-- why no period of hours ends on the day at the time of the instant
abbrev pub hour_causes : Entered → ZoneRules → Direction → ℕ → ℕ → Causes
hour_causes entered zone direction instant day = record {
  saturday = weekday day == 6;
  sunday = weekday day == 0;
  statutory = statutory_holiday day;
  federal = contains entered.federal day;
  state = is_forward direction && contains entered.state day;
  closed = false;
  inaccessible = not (is_accessible entered zone (same_time_on zone instant day));
}
