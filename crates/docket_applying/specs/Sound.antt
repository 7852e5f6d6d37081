-- What is tested of a view that was read from a database.
use Rattle.std.specs.Prelude.{nat_le, nat_lt, ◌≤◌, ◌&&◌, ◌||◌, ℕ, Bool, true, List, length, Option, Some, None}
use Rattle.std.specs.List.{All, list_all}
use Rattle.civil_time.specs.LocalTime.{local_day, seconds}
use Rattle.civil_time.specs.Zone.{ZoneRules}
use Rattle.court_days.specs.Court.{CourtSettings, zone_of}
use Rattle.court_rules.specs.Acts.{acts_ok, is_entered_day, is_instant}
use Rattle.court_rules.specs.LocalRules.{is_local_rule}
use Rattle.court_rules.specs.Standings.{AreActs}
use Rattle.court_rules.specs.declared.act.Act.{Act}
use Rattle.court_rules.specs.declared.act.Act.TheVariants as act
use Rattle.court_rules.specs.declared.act.Start.TheVariants as start
use Rattle.court_rules.specs.declared.local_rule.LocalRule.{LocalRule}
use Rattle.docket_decisions.specs.Refusals.{is_over}
use Rattle.docket_decisions.specs.Tables.{Tables, deadlines_in}
use Rattle.docket_history.specs.CalendarItems.{IsEnteredItem}
use Rattle.docket_history.specs.Histories.{items_of}
use Rattle.docket_history.specs.Times.{standing_shown}
use Rattle.docket_history.specs.Views.{acts_in, deadline_shown}
use Rattle.docket_history.specs.declared.item.CalendarItem.{CalendarItem}
use Rattle.docket_history.specs.declared.item.CalendarItem.TheVariants.{Day, Span, Short}
use Rattle.docket_history.specs.declared.view.DeadlineView.{DeadlineView}
use Rattle.docket_history.specs.declared.view.View.{View}
use Rattle.court_days.specs.Limits.{first_entered_instant, last_entered_instant, most_rows}

-- a court may enter the item
abbrev pub is_entered_item : CalendarItem → Bool
is_entered_item (Day kind day) = is_entered_day day
is_entered_item (Span start end) = nat_le first_entered_instant start && (nat_lt start end && nat_le end last_entered_instant)
is_entered_item (Short day close) = is_entered_day day

-- a period of hours begins at an instant that has a local day, and a court may enter that day
abbrev pub begins_in_time : ZoneRules → Act → Bool
begins_in_time zone (act.Start (start.Hours hours)) =
    is_instant hours.at && is_entered_day (local_day zone (seconds hours.at))
begins_in_time zone _ = true

-- these may be the acts of a deadline
abbrev pub are_acts : ZoneRules → List Act → Bool
are_acts zone acts = acts_ok acts && list_all (begins_in_time zone) acts

-- each deadline has lawful acts
abbrev pub are_lawful : ZoneRules → List DeadlineView → Bool
are_lawful zone all = list_all (λ d. are_acts zone d.acts) all

-- the deadline, if there is one, has lawful acts
abbrev pub is_lawful : ZoneRules → Option DeadlineView → Bool
is_lawful zone None = true
is_lawful zone (Some d) = are_acts zone d.acts

-- there is room for one act more on the deadline that the command names, or its time is over
abbrev pub has_room : CourtSettings → View → Bool
has_room court v = nat_lt (length (acts_in (deadline_shown v))) 100 || is_over (standing_shown court v)

-- the local rule, if there is one, is one that a court may have
abbrev pub is_lawful_rule : Option LocalRule → Bool
is_lawful_rule None = true
is_lawful_rule (Some rule) = is_local_rule rule

-- a court may enter each item of the calendar, at most 4,000 of them
abbrev pub IsSoundCalendar : List CalendarItem → Type 0
IsSoundCalendar items = All IsEnteredItem items × (length items ≤ most_rows)

-- the deadlines of a case, at most 1,000 of them, have lawful acts
pub record IsSoundCase (court : CourtSettings) (deadlines : List DeadlineView) : Type 0 where
  pub few : length deadlines ≤ 1000
  pub acts : All (λ d. AreActs (zone_of court) d.acts) deadlines

-- the calendar of the tables is sound so, and so are the deadlines of each case
pub record AreSound (court : CourtSettings) (t : Tables) : Type 0 where
  pub calendar : IsSoundCalendar (items_of t.calendar)
  pub cases : (k : ℕ) → IsSoundCase court (deadlines_in t k)
