-- The deadlines that fall due, as requests ask for them.
use Rattle.std.specs.Prelude.{ℕ, ℤ, List, Option, Some, None}
use Rattle.court_days.specs.Court.{CourtSettings}
use Rattle.docket_history.specs.Histories.{History}
use Rattle.docket_questions.specs.Dues.{text_of_dues}
use Rattle.docket_questions.specs.declared.dues.DueDays.{DueDays}
use Rattle.docket_questions.specs.declared.dues.DueDays.TheVariants.{Around, Between, By}
use Rattle.docket_questions.specs.declared.dues.DueForm.TheVariants.{Export as ExportForm, Page}
use Rattle.docket_questions.specs.declared.dues.Dues.{Dues}
use Rattle.due_exports.specs.declared.form.Form.{Form}
use Rattle.due_exports.specs.declared.form.Form.TheVariants as form
use Rattle.html_sheets.specs.declared.due.Due.{Due}
use Rattle.html_sheets.specs.declared.due_list.DueList.TheVariants as list
use Rattle.http_request.specs.declared.export.Export.{Export}
use Rattle.http_request.specs.declared.export.Export.TheVariants.{Calendar, Csv, Json}
use Rattle.docket_http.specs.Moments.{second_of}

-- the page of those of some days, on this day
abbrev pub listed : ℕ → ℕ → ℕ → Dues
listed from to day = record { form = Page list.Days day; days = Between from to }

-- the page of those by the day of the request, which is this one
abbrev pub listed_by : Due → ℕ → ℕ → Dues
listed_by due day fresh = record { form = Page (list.By due) day; days = By due (second_of fresh) }

abbrev pub format_of : Export → Form
format_of Calendar = form.Calendar
format_of Csv = form.Csv
format_of Json = form.Json

-- the days that are asked for, or without any those about a second
abbrev pub days_of : Option (ℕ × ℕ) → ℤ → DueDays
days_of (Some days) second = Between days.0 days.1
days_of None second = Around second

-- the export of those of some days, or without any of those about the second of the request; it is written at that second
abbrev pub exported : Export → Option (ℕ × ℕ) → ℕ → Dues
exported export days fresh = record { form = ExportForm (format_of export) (second_of fresh); days = days_of days (second_of fresh) }

-- their text
abbrev pub text_asked : CourtSettings → History → Dues → List ℕ
text_asked court h dues = text_of_dues court h dues.form dues.days
