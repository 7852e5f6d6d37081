-- An export of the deadlines that fall due: its head, an entry a deadline, and its foot.
use Rattle.std.specs.Prelude.{ℕ, ℤ, Bool, true, false, List, [], ◌++◌, codes}
use Rattle.court_days.specs.Court.{CourtSettings}
use Rattle.docket_history.specs.declared.record.DueRow.{DueRow}
use Rattle.docket_history.specs.declared.row.CaseRow.{CaseRow}
use Rattle.html_sheets.specs.Pages.{page_head, page_foot}
use Rattle.html_sheets.specs.Weeks.{days_head, due_row, week_foot}
use Rattle.html_sheets.specs.declared.links.Links.TheVariants.{None}
use Rattle.icalendar.specs.Events.{calendar_head, calendar_foot}
use Rattle.due_exports.specs.Events.{due_event}
use Rattle.due_exports.specs.Objects.{due_member, array_head, array_foot}
use Rattle.due_exports.specs.Records.{due_record, header_record}
use Rattle.due_exports.specs.declared.form.Form.{Form}
use Rattle.due_exports.specs.declared.form.Form.TheVariants.{Calendar, Html, Csv, Json}

-- the text before the entries, for the days from one to another
abbrev pub export_head : Form → ℕ → ℕ → List ℕ
export_head Calendar from to = calendar_head
export_head Html from to = page_head (codes "Deadlines") ++ days_head from to
export_head Csv from to = header_record
export_head Json from to = array_head

-- the entry of a deadline at a place, from 0, among the entries: with its case, and the text of why it is what it is. `stamp` is
-- the instant of the writing
abbrev pub export_entry : Form → CourtSettings → ℤ → ℕ → DueRow → CaseRow → List ℕ → List ℕ
export_entry Calendar court stamp place due case reasons = due_event stamp due case reasons
export_entry Html court stamp place due case reasons = due_row None court due case.label case.caption
export_entry Csv court stamp place due case reasons = due_record court due case
export_entry Json court stamp place due case reasons = due_member court place due case

-- the text behind the entries
abbrev pub export_foot : Form → List ℕ
export_foot Calendar = calendar_foot
export_foot Html = week_foot ++ page_foot
export_foot Csv = []
export_foot Json = array_foot

-- whether an entry has its reasons: only an event of a calendar does
abbrev pub tells_reasons : Form → Bool
tells_reasons Calendar = true
tells_reasons Html = false
tells_reasons Csv = false
tells_reasons Json = false
