-- What a command makes of any rows that stand in a docket's tables, whether or not a history leads to them.
use Rattle.std.specs.Prelude.{◌≡◌, ◌+◌, ℕ, List, [], ◌∷◌, map}
use Rattle.std.specs.List.{AllByRecursion, Contains}
use Rattle.court_days.specs.Court.{CourtSettings}
use Rattle.docket_command.specs.declared.command.Command.{Command}
use Rattle.docket_command.specs.declared.refusal.Reply.{Reply}
use Rattle.docket_decisions.specs.declared.end_row.StoredEnd.{StoredEnd}
use Rattle.docket_history.specs.declared.item.CalendarItem.{CalendarItem}
use Rattle.docket_history.specs.declared.item.CalendarItem.TheVariants.{Short}
use Rattle.docket_history.specs.declared.row.Change.{Change}
use Rattle.docket_history.specs.declared.row.Change.TheVariants.{AddCalendar, RemoveCalendar, AddCase, AddParty, AddEntry, AddDeadline, AddAct, AddLocalRule}
use Rattle.docket_columns.specs.Cells.{court_cells, calendar_cells, short_day_cells, case_cells, party_cells, entry_cells, deadline_cells, act_cells, receipt_cells, end_cells, local_rule_cells}
use Rattle.docket_tables.specs.declared.table.Table.TheVariants.{Court, Calendar, Cases, Parties, Entries, Deadlines, Acts, Receipts, Due, ShortDays, LocalRules}
use Rattle.docket_tables.specs.Holds.{IsKeyed, without_number}
use Rattle.docket_tables.specs.Layouts.{Rows, with_row, with_rows}

-- the court has its one row, which holds the number of the next row of the calendar. Each row of the calendar has a number, in
-- whichever of its two tables it stands. The stored ends are these
pub record AreDocketRows (settings : CourtSettings) (next_row : ℕ) (stored : List StoredEnd) (rows : Rows) : Type 0 where
  pub court : rows Court ≡ court_cells settings next_row ∷ []
  pub keyed : AllByRecursion IsKeyed (rows Calendar)
  pub keyed_short : AllByRecursion IsKeyed (rows ShortDays)
  pub ends : rows Due ≡ map end_cells stored

-- the rows, but with these stored ends
abbrev pub with_stored : List StoredEnd → Rows → Rows
with_stored stored rows = with_rows Due (map end_cells stored) rows

-- with one more row of the calendar: a short day stands in a table of its own
abbrev pub with_calendar_row : ℕ → List ℕ → CalendarItem → Rows → Rows
with_calendar_row number name (Short day close) rows = with_row ShortDays (short_day_cells (record { number = number; day = day; close = close; name = name })) rows
with_calendar_row number name item rows = with_row Calendar (calendar_cells (record { number = number; item = item; name = name })) rows

-- without the row of that number, whichever of the two tables has it
abbrev pub without_calendar_row : ℕ → Rows → Rows
without_calendar_row number rows =
    with_rows ShortDays (without_number number (rows ShortDays)) (with_rows Calendar (without_number number (rows Calendar)) rows)

-- a change of one row, where n is the number of the next row of the calendar
abbrev pub row_changed : CourtSettings → ℕ → Change → Rows → Rows
row_changed settings n (AddCalendar row) rows = with_rows Court (court_cells settings (n + 1) ∷ []) (with_calendar_row row.number row.name row.item rows)
row_changed settings n (RemoveCalendar number) rows = without_calendar_row number rows
row_changed settings n (AddCase row) rows = with_row Cases (case_cells row) rows
row_changed settings n (AddParty row) rows = with_row Parties (party_cells row) rows
row_changed settings n (AddEntry row) rows = with_row Entries (entry_cells row) rows
row_changed settings n (AddDeadline row) rows = with_row Deadlines (deadline_cells row) rows
row_changed settings n (AddAct row) rows = with_row Acts (act_cells row) rows
row_changed settings n (AddLocalRule row) rows = with_row LocalRules (local_rule_cells row) rows

-- the number of the next row of the calendar, after a change
abbrev pub next_after : Change → ℕ → ℕ
next_after (AddCalendar row) n = n + 1
next_after other n = n

-- after changes, one after another
abbrev pub next_after_all : List Change → ℕ → ℕ
next_after_all [] n = n
next_after_all (x ∷ xs) n = next_after_all xs (next_after x n)

-- the changes, one after another
abbrev pub all_rows_changed : CourtSettings → ℕ → List Change → Rows → Rows
all_rows_changed settings n [] rows = rows
all_rows_changed settings n (x ∷ xs) rows = all_rows_changed settings (next_after x n) xs (row_changed settings n x rows)

-- the changes of a command, and its receipt behind the others
abbrev pub recorded : CourtSettings → ℕ → Command → Reply → List Change → Rows → Rows
recorded settings n command reply changes rows =
    with_row Receipts (receipt_cells (record { command = command; reply = reply })) (all_rows_changed settings n changes rows)

-- a receipt of the command, with that reply, stands among the rows
abbrev pub HasReceipt : Command → Reply → Rows → Type 0
HasReceipt command reply rows = Contains (rows Receipts) (receipt_cells (record { command = command; reply = reply }))
