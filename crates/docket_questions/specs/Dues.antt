-- The deadlines that fall due on some days, in one of several forms.
use Rattle.std.specs.Prelude.{ℕ, ◌+◌, ◌-◌, Bool, false, max, min, List, [], ◌++◌, length, map, if◌then◌else◌, unwrap_or}
use Rattle.std.specs.List.{flat_map}
use Rattle.court_days.specs.Court.{CourtSettings}
use Rattle.docket_calendar.specs.Calendar.{calendar_rows, text_of_calendar}
use Rattle.docket_history.specs.Histories.{History, case_rows, parties_of_case, party_rows}
use Rattle.docket_history.specs.declared.record.DueRow.{DueRow}
use Rattle.docket_history.specs.declared.row.CaseRow.{CaseRow}
use Rattle.docket_text.specs.CalendarTexts.{calendar_line, end_line}
use Rattle.due_exports.specs.Exports.{export_entry, export_foot, export_head, tells_reasons}
use Rattle.due_exports.specs.Texts.{Told, entries_text, export_text}
use Rattle.html_sheets.specs.Due.{day_of_clock, days_about}
use Rattle.html_sheets.specs.Sheets.{name_of, party_at}
use Rattle.html_sheets.specs.Sites.{days_page_foot, days_page_head}
use Rattle.html_sheets.specs.Weeks.{named_row}
use Rattle.docket_questions.specs.Kept.{case_of}
use Rattle.docket_questions.specs.LongLines.{long_line}
use Rattle.docket_questions.specs.Texts.{text_of_reasons}
use Rattle.docket_questions.specs.declared.dues.DueDays.{DueDays}
use Rattle.docket_questions.specs.declared.dues.DueDays.TheVariants.{Between, By, Around}
use Rattle.docket_questions.specs.declared.dues.DueForm.{DueForm}
use Rattle.docket_questions.specs.declared.dues.DueForm.TheVariants.{Page, Calendar, Long, Export}

-- the days from 35 before a day to 400 after it, within those that have a date here: 1980-01-01 (3652) to 3999-12-31 (741,441)
abbrev pub days_around : ℕ → ℕ × ℕ
days_around day = (max 3652 (day - 35), min 741_441 (day + 400))

-- the first and the last of the days
abbrev pub days_of : CourtSettings → DueDays → ℕ × ℕ
days_of court (Between from to) = (from, to)
days_of court (By due clock) = days_about (day_of_clock court clock) due
days_of court (Around clock) = days_around (day_of_clock court clock)

-- the name of the party whose time it is; there is none where it is every party's
abbrev pub name_in : History → DueRow → List ℕ
name_in h due = name_of (party_at (parties_of_case due.case (party_rows h)) due.party)

-- only an event of a calendar of another program shows why a deadline is what it is
abbrev pub has_reasons : DueForm → Bool
has_reasons (Page list day) = false
has_reasons Calendar = false
has_reasons Long = false
has_reasons (Export form stamp) = tells_reasons form

-- a deadline at a place, from 0, by its case, the name of its party, and why it is what it is
abbrev pub entry_of : DueForm → CourtSettings → ℕ → DueRow → CaseRow → List ℕ → List ℕ → List ℕ
entry_of (Page list day) court place due case name reasons = named_row court due case.label name case.caption
entry_of Calendar court place due case name reasons = calendar_line court due
entry_of Long court place due case name reasons = long_line court due case name
entry_of (Export form stamp) court place due case name reasons = export_entry form court stamp place due case reasons

module _ (form : DueForm) (court : CourtSettings) (h : History) where
  -- why it is what it is, where the form shows that
  abbrev pub reasons_in : DueRow → List ℕ
  reasons_in due = if has_reasons form then unwrap_or (text_of_reasons court h due.case due.number) [] else []

  abbrev pub entry_told : ℕ → DueRow → List ℕ
  entry_told place due = entry_of form court place due (case_of (case_rows h) due.case) (name_in h due) (reasons_in due)

  -- a deadline with its case, and why it is what it is
  abbrev pub told_of : DueRow → Told
  told_of due = (due, case_of (case_rows h) due.case, reasons_in due)

-- the deadlines, one after another
abbrev pub dues_told : DueForm → CourtSettings → History → List DueRow → List ℕ
dues_told (Page list day) court h dues = flat_map (entry_told (Page list day) court h 0) dues
dues_told Calendar court h dues = flat_map (entry_told Calendar court h 0) dues
dues_told Long court h dues = flat_map (entry_told Long court h 0) dues
dues_told (Export form stamp) court h dues = entries_text form court stamp 0 (map (told_of (Export form stamp) court h) dues)

-- what stands before them, and behind so many
abbrev pub head_of : DueForm → CourtSettings → ℕ → ℕ → List ℕ
head_of (Page list day) court from to = days_page_head list court from to
head_of Calendar court from to = []
head_of Long court from to = []
head_of (Export form stamp) court from to = export_head form from to

abbrev pub foot_of : DueForm → ℕ → ℕ → ℕ → List ℕ
foot_of (Page list day) from to count = days_page_foot from to day
foot_of Calendar from to count = end_line count
foot_of Long from to count = end_line count
foot_of (Export form stamp) from to count = export_foot form

abbrev pub text_between : DueForm → CourtSettings → History → ℕ → ℕ → List DueRow → List ℕ
text_between form court h from to dues = head_of form court from to ++ (dues_told form court h dues ++ foot_of form from to (length dues))

module _ (court : CourtSettings) (h : History) (from to : ℕ) where
  -- a page: a row for each deadline, with the name of its party, and the label and the caption of its case
  abbrev pub page_row : DueRow → List ℕ
  page_row due = named_row court due (case_of (case_rows h) due.case).label (name_in h due) (case_of (case_rows h) due.case).caption

  -- long lines: one for each deadline, and then their number
  abbrev pub long_row : DueRow → List ℕ
  long_row due = long_line court due (case_of (case_rows h) due.case) (name_in h due)

  -- the deadlines of the days from one to another, in the order of the calendar
  abbrev pub text_of_days : DueForm → List ℕ
  text_of_days (Page list day) = days_page_head list court from to ++ (flat_map page_row (calendar_rows court h from to) ++ days_page_foot from to day)
  text_of_days Calendar = text_of_calendar court h from to
  text_of_days Long = flat_map long_row (calendar_rows court h from to) ++ end_line (length (calendar_rows court h from to))
  text_of_days (Export form stamp) = export_text form court stamp from to (map (told_of (Export form stamp) court h) (calendar_rows court h from to))

abbrev pub text_of_dues : CourtSettings → History → DueForm → DueDays → List ℕ
text_of_dues court h form days = text_of_days court h (days_of court days).0 (days_of court days).1 form
