-- The rows that the tables hold of a docket.
use Rattle.std.specs.Prelude.{◌==◌, ℕ, List, [], ◌∷◌, map, filter}
use Rattle.std.specs.List.{AllByRecursion}
use Rattle.court_days.specs.Calendar.{Entered}
use Rattle.court_days.specs.Court.{CourtSettings, zone_of}
use Rattle.docket_decisions.specs.EndRows.{AreRowsFrom, end_rows, end_rows_from, ends_running}
use Rattle.docket_history.specs.Histories.{deadlines_of_case, deadlines_from}
use Rattle.docket_history.specs.ShortDays.{day_and_span_rows, short_day_rows}
use Rattle.docket_decisions.specs.Tables.{Tables}
use Rattle.docket_decisions.specs.declared.end_row.StoredEnd.{StoredEnd}
use Rattle.docket_columns.specs.Cells.{court_cells, court_cells_of, calendar_cells, short_day_cells, case_cells, party_cells, entry_cells, deadline_cells, act_cells, receipt_cells, end_cells, local_rule_cells}
use Rattle.docket_columns.specs.Fits.{IsEndRow}
use Rattle.docket_columns.specs.declared.version.Version.{Version}
use Rattle.docket_columns.specs.declared.version.Version.TheVariants.{First, Second}
use Rattle.docket_tables.specs.declared.table.Table.TheVariants.{Court, Calendar, Cases, Parties, Entries, Deadlines, Acts, Receipts, Due, ShortDays, LocalRules}
use Rattle.docket_tables.specs.Layouts.{Rows, with_rows}

-- these tables, with these rows of ends
abbrev pub rows_with : CourtSettings → Tables → List StoredEnd → Rows
rows_with court t ends Court = court_cells court t.next_row ∷ []
rows_with court t ends Calendar = map calendar_cells (day_and_span_rows t.calendar)
rows_with court t ends Cases = map case_cells t.cases
rows_with court t ends Parties = map party_cells t.parties
rows_with court t ends Entries = map entry_cells t.entries
rows_with court t ends Deadlines = map deadline_cells t.deadlines
rows_with court t ends Acts = map act_cells t.acts
rows_with court t ends Receipts = map receipt_cells t.receipts
rows_with court t ends Due = map end_cells ends
rows_with court t ends ShortDays = map short_day_cells (short_day_rows t.calendar)
rows_with court t ends LocalRules = map local_rule_cells t.local_rules

-- with the ends that the tables have, by the calendar that stands in them
abbrev pub rows_in : CourtSettings → Tables → Rows
rows_in court t = rows_with court t (end_rows court t)

-- in a version
abbrev pub rows_by : Version → CourtSettings → Tables → Rows
rows_by First court t = with_rows Court (court_cells_of First court t.next_row ∷ []) (rows_in court t)
rows_by Second court t = rows_in court t

-- the ends of a case
abbrev pub ends_of : ℕ → List StoredEnd → List StoredEnd
ends_of k ends = filter (λ row. row.case == k) ends

-- the ends of case k are rows of it, one for a deadline at most, and a question shows them
pub record AreStored (k : ℕ) (ends : List StoredEnd) : Type 0 where
  pub fit : AllByRecursion IsEndRow (ends_of k ends)
  pub rows : AreRowsFrom k 1 (ends_of k ends)

-- the ends of case k by the calendar, as its deadlines and acts stand in the tables
abbrev pub ends_in_case : CourtSettings → Entered → Tables → ℕ → List StoredEnd
ends_in_case court entered t k =
    end_rows_from k 1 (ends_running (zone_of court) entered (deadlines_from k 1 t.acts (deadlines_of_case k t.deadlines)))
