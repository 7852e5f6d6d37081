-- When a request came: its number counts the nanoseconds since 1970-01-01T00:00Z.
use Rattle.std.specs.Prelude.{ℕ, ℤ, ◌/◌, pos}
use Rattle.court_days.specs.Court.{CourtSettings}
use Rattle.html_sheets.specs.Due.{day_of_clock}

-- the second of a request
abbrev pub second_of : ℕ → ℤ
second_of fresh = pos (fresh / 1_000_000_000)

-- the local day of a request
abbrev pub day_of_request : CourtSettings → ℕ → ℕ
day_of_request court fresh = day_of_clock court (second_of fresh)
