-- What the tables of a court's docket hold, counted.
use Rattle.std.specs.Prelude.{◌+◌, length}
use Rattle.court_days.specs.Court.{CourtSettings, zone_of}
use Rattle.docket_history.specs.CalendarItems.{calendar_of}
use Rattle.docket_history.specs.Histories.{items_of}
use Rattle.docket_sound.specs.Standings.{counts_of_standings, standings_of}
use Rattle.docket_scan.specs.Judging.{Rows}
use Rattle.docket_scan.specs.declared.holdings.Holdings.{Holdings}

-- the rows of the calendar are counted in both its tables; deadlines are counted by where they stand, by their acts and the table of the
-- calendar alone, since short days move none
abbrev pub holdings_of : CourtSettings → Rows → Holdings
holdings_of court r = record {
  calendar_rows = length r.calendar + length r.short_days;
  local_rules = length r.local_rules;
  cases = length r.cases;
  parties = length r.parties;
  entries = length r.entries;
  deadlines = length r.deadlines;
  standings = counts_of_standings (standings_of (zone_of court) (calendar_of (items_of r.calendar)) r.acts);
  receipts = length r.receipts;
}
