-- A whole export.
use Rattle.std.specs.Prelude.{ℕ, ◌+◌, ◌<◌, ◌^◌, ℤ, List, [], ◌∷◌, ◌++◌, map}
use Rattle.std.specs.List.{flat_map}
use Rattle.court_days.specs.Court.{CourtSettings}
use Rattle.docket_history.specs.declared.record.DueRow.{DueRow}
use Rattle.docket_history.specs.declared.row.CaseRow.{CaseRow}
use Rattle.icalendar.specs.Events.{head_lines, foot_lines}
use Rattle.serde_json.specs.Data.{Items}
use Rattle.serde_json.specs.View.{items_of}
use Rattle.due_exports.specs.Events.{due_lines}
use Rattle.due_exports.specs.Exports.{export_head, export_entry, export_foot}
use Rattle.due_exports.specs.Objects.{due_object}
use Rattle.due_exports.specs.declared.form.Form.{Form}

-- a deadline with its case, and the text of why it is what it is
abbrev pub Told : Type 0
Told = DueRow × CaseRow × List ℕ

-- the entries, from a place on
abbrev pub entries_text : Form → CourtSettings → ℤ → ℕ → List Told → List ℕ
entries_text form court stamp place [] = []
entries_text form court stamp place (t ∷ told) = export_entry form court stamp place t.0 t.1 t.2 ++ entries_text form court stamp (place + 1) told

-- the head, the entries and the foot
abbrev pub export_text : Form → CourtSettings → ℤ → ℕ → ℕ → List Told → List ℕ
export_text form court stamp from to told = export_head form from to ++ (entries_text form court stamp 0 told ++ export_foot form)

-- the lines of a calendar: those of its head, of each event, and of its foot
abbrev pub calendar_lines : ℤ → List Told → List (List ℕ)
calendar_lines stamp told = head_lines ++ (flat_map (λ t. due_lines stamp t.0 t.1 t.2) told ++ foot_lines)

-- the objects of an array
abbrev pub objects_of : CourtSettings → List Told → Items
objects_of court told = items_of (map (λ t. due_object court t.0 t.1) told)

-- the numbers of a deadline are of 64 bits at most, as those of a docket are
abbrev pub IsNumbered : Told → Type 0
IsNumbered t = (t.0.case < 2 ^ 64) × (t.0.number < 2 ^ 64) × (t.0.party < 2 ^ 64)
