-- The end of a deadline, as records and objects show it: its day, its time, and when the clerk's office closes on it.
use Rattle.std.specs.Prelude.{ℕ, List, codes, Option, Some, None}
use Rattle.civil_time.specs.DayText.{day_text}
use Rattle.civil_time.specs.LocalTime.{local_day, local_minute}
use Rattle.civil_time.specs.MomentText.{clock_text}
use Rattle.court_days.specs.Court.{CourtSettings, zone_of}
use Rattle.court_days.specs.declared.filing.End.{End}
use Rattle.court_days.specs.declared.filing.End.TheVariants.{LastDay, Moment}
use Rattle.docket_text.specs.Times.{shown, shown_minute}

-- the last day, or the local day of an instant
abbrev pub day_of_end : CourtSettings → End → List ℕ
day_of_end court (LastDay day) = day_text day
day_of_end court (Moment at) = day_text (local_day (zone_of court) (shown at))

-- a last day runs to its midnight for electronic filing (Fed. R. Civ. P. 6(a)(4)); the time of an instant is local
abbrev pub time_of_end : CourtSettings → End → List ℕ
time_of_end court (LastDay day) = codes "24:00"
time_of_end court (Moment at) = clock_text (local_minute (zone_of court) (shown at))

-- a last day runs to the closing of the clerk's office for other filing; no closing matters to an instant
abbrev pub closing_of_end : ℕ → End → Option (List ℕ)
closing_of_end close (LastDay day) = Some (clock_text (shown_minute close))
closing_of_end close (Moment at) = None
