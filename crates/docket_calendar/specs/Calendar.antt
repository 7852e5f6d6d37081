-- The calendar of a history: the deadlines whose time runs, over a range of days.
use Rattle.std.specs.Prelude.{ℕ, Bool, ◌&&◌, nat_le, List, [], ◌∷◌, filter}
use Rattle.std.specs.List.{flat_map}
use Rattle.court_days.specs.Calendar.{Entered}
use Rattle.court_days.specs.Court.{CourtSettings, zone_of}
use Rattle.court_rules.specs.LocalRules.{deadline_rule_name}
use Rattle.court_rules.specs.Standings.{standing}
use Rattle.court_rules.specs.declared.act.Standing.{Standing}
use Rattle.court_rules.specs.declared.act.Standing.TheVariants.{Running}
use Rattle.docket_decisions.specs.EndRows.{calendar_in}
use Rattle.docket_history.specs.Histories.{History, acts_of_deadline}
use Rattle.docket_history.specs.Records.{close_of_end}
use Rattle.docket_decisions.specs.Tables.{Tables, rows_of}
use Rattle.docket_history.specs.declared.record.DueRow.{DueRow}
use Rattle.docket_history.specs.declared.row.ActRow.{ActRow}
use Rattle.docket_history.specs.declared.row.DeadlineRow.{DeadlineRow}
use Rattle.docket_text.specs.CalendarOrder.{day_of_end, calendar_cmp}
use Rattle.docket_text.specs.CalendarTexts.{calendar_text}
use Rattle.sqlite_keyed.specs.Lists.{sort_by}

-- the row of a deadline that stands so, if its time runs
abbrev pub row_where : CourtSettings → Entered → DeadlineRow → Standing → List DueRow
row_where court entered d (Running end) =
    record {
      end = end;
      close = close_of_end court entered end;
      case = d.case;
      number = d.number;
      party = d.party;
      rule = deadline_rule_name d.rule;
    }
    ∷ []
row_where court entered d _ = []

-- the row of a deadline, by its acts among those of all deadlines
abbrev pub due_of : CourtSettings → Entered → List ActRow → DeadlineRow → List DueRow
due_of court entered acts d =
    row_where court entered d (standing (zone_of court) entered (acts_of_deadline d.case d.number acts))

-- the rows of all deadlines of the tables whose time runs, by the calendar that stands there
abbrev pub running : CourtSettings → Tables → List DueRow
running court t = flat_map (due_of court (calendar_in t) t.acts) t.deadlines

-- the day of its end lies in the range, both days included
abbrev pub is_within : CourtSettings → ℕ → ℕ → DueRow → Bool
is_within court from to row = nat_le from (day_of_end court row.end) && nat_le (day_of_end court row.end) to

abbrev pub due_within : CourtSettings → ℕ → ℕ → Tables → List DueRow
due_within court from to t = filter (is_within court from to) (running court t)

-- the calendar of a history for a range of days: its deadlines whose time runs, with their ends by its whole calendar, in order
abbrev pub calendar_rows : CourtSettings → History → ℕ → ℕ → List DueRow
calendar_rows court h from to = sort_by (calendar_cmp court) (due_within court from to (rows_of court h))

abbrev pub text_of_calendar : CourtSettings → History → ℕ → ℕ → List ℕ
text_of_calendar court h from to = calendar_text court (calendar_rows court h from to)
