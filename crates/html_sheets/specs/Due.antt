-- The days about a day whose deadlines are listed.
use Rattle.std.specs.Prelude.{ℕ, ℤ, ◌-◌, ◌+◌, max, min}
use Rattle.civil_time.specs.LocalTime.{local_day}
use Rattle.court_days.specs.Court.{CourtSettings, zone_of}
use Rattle.docket_text.specs.Times.{shown}
use Rattle.html_sheets.specs.declared.due.Due.{Due}
use Rattle.html_sheets.specs.declared.due.Due.TheVariants.{Today, Week, Overdue}

-- the day of a clock in the zone of a court: the clock counts the seconds since 1970-01-01T00:00Z
abbrev pub day_of_clock : CourtSettings → ℤ → ℕ
day_of_clock court clock = local_day (zone_of court) (shown clock)

-- that day; that day and the six days after it, up to 3999-12-31 (741,441); or the days before it, of which the first is 1980-01-01 (3652)
abbrev pub days_about : ℕ → Due → ℕ × ℕ
days_about today Today = (today, today)
days_about today Week = (today, min 741_441 (today + 6))
days_about today Overdue = (3652, max 3652 (today - 1))
