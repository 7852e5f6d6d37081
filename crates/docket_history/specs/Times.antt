-- Where the deadline that a command names stands.
use Rattle.std.specs.Prelude.{ℕ, Bool, true, pos}
use Rattle.court_days.specs.Calendar.{Entered}
use Rattle.court_days.specs.Court.{CourtSettings, zone_of}
use Rattle.court_days.specs.Timely.{is_timely}
use Rattle.court_days.specs.declared.filing.Way.{Way}
use Rattle.court_rules.specs.Standings.{standing}
use Rattle.court_rules.specs.declared.act.Standing.{Standing}
use Rattle.court_rules.specs.declared.act.Standing.TheVariants.{Running}
use Rattle.docket_history.specs.CalendarItems.{calendar_of}
use Rattle.docket_history.specs.Views.{acts_in, deadline_shown}
use Rattle.docket_history.specs.declared.view.View.{View}

-- where the deadline that the command names stands, by the calendar that is shown
abbrev pub standing_shown : CourtSettings → View → Standing
standing_shown court v = standing (zone_of court) (calendar_of v.calendar) (acts_in (deadline_shown v))

-- a filing at the instant is in time, or no time was running
abbrev pub is_in_time : CourtSettings → Entered → Standing → ℕ → Way → Bool
is_in_time court entered (Running end) at way = is_timely court entered end (pos at) way
is_in_time court entered _ at way = true
