-- The rows of the docket's tables in SQL: the values of the columns, in order.
use Rattle.std.specs.Prelude.{◌≡◌, ℕ, ℤ, pos, List, [], ◌∷◌, codes, if◌then◌else◌, Option, Some, None}
use Rattle.std.specs.Str.{bytes_eq}
use Rattle.sqlite_value.specs.declared.value.Value.{Value}
use Rattle.sqlite_value.specs.declared.value.Value.TheVariants.{Int, Text}
use Rattle.sqlite_value.specs.Order.{Row, column}
use Rattle.court_days.specs.Court.{CourtSettings}
use Rattle.court_rules.specs.LocalRules.{deadline_rule_name, is_local_name}
use Rattle.docket_decisions.specs.declared.end_row.StoredEnd.{StoredEnd}
use Rattle.docket_history.specs.declared.row.CalendarRow.{CalendarRow}
use Rattle.docket_history.specs.declared.row.CaseRow.{CaseRow}
use Rattle.docket_history.specs.declared.row.ShortDayRow.{ShortDayRow}
use Rattle.docket_history.specs.declared.row.PartyRow.{PartyRow}
use Rattle.docket_history.specs.declared.row.EntryRow.{EntryRow}
use Rattle.docket_history.specs.declared.row.DeadlineRow.{DeadlineRow}
use Rattle.docket_history.specs.declared.row.ActRow.{ActRow}
use Rattle.docket_history.specs.declared.row.LocalRuleRow.{LocalRuleRow}
use Rattle.docket_history.specs.declared.row.Receipt.{Receipt}
use Rattle.docket_history.specs.declared.view.Kept.{Kept}
use Rattle.docket_history.specs.declared.view.Kept.TheVariants.{Same, Other}
use Rattle.docket_decisions.specs.Outcomes.{replied}
use Rattle.docket_columns.specs.declared.court.CourtRow.{CourtRow}
use Rattle.docket_columns.specs.declared.version.Version.{Version}
use Rattle.docket_columns.specs.declared.version.Version.TheVariants.{First, Second}
use Rattle.docket_wire.specs.Writing.{canonical}
use Rattle.docket_columns.specs.Codes.{direction_number, flag_number, role_number, item_code, act_code}

abbrev pub version_number : Version → ℕ
version_number First = 1
version_number Second = 2

-- court: id, word, version, zone, close, next_row
abbrev pub court_cells_of : Version → CourtSettings → ℕ → Row
court_cells_of v c next =
    Int (pos 1) ∷ Text (codes "civil docket") ∷ Int (pos (version_number v)) ∷ Text c.zone_text ∷ Int (pos c.close_minute) ∷ Int (pos next) ∷ []

-- in the version that this program keeps
abbrev pub court_cells : CourtSettings → ℕ → Row
court_cells = court_cells_of Second

-- a row of the court's table has the word of a docket
abbrev pub HasWord : Row → Type 0
HasWord row = column row 1 ≡ Text (codes "civil docket")

-- and its tables are laid out in that version
abbrev pub IsOfVersion : Version → Row → Type 0
IsOfVersion v row = column row 2 ≡ Int (pos (version_number v))

-- the settings in a row of the court
abbrev pub settings_of : CourtRow → CourtSettings
settings_of r = record { zone_text = r.zone; close_minute = r.close }

-- calendar: row_no, kind, a, b, name
abbrev pub calendar_cells : CalendarRow → Row
calendar_cells r =
    Int (pos r.number) ∷ Int (pos (item_code r.item).kind) ∷ Int (item_code r.item).a ∷ Int (item_code r.item).b ∷ Text r.name ∷ []

-- short_day: row_no, day, close, name
abbrev pub short_day_cells : ShortDayRow → Row
short_day_cells r = Int (pos r.number) ∷ Int (pos r.day) ∷ Int (pos r.close) ∷ Text r.name ∷ []

-- cases: number, label, caption, filed
abbrev pub case_cells : CaseRow → Row
case_cells r = Int (pos r.number) ∷ Text r.label ∷ Text r.caption ∷ Int (pos r.filed) ∷ []

-- party: case_no, number, name, role
abbrev pub party_cells : PartyRow → Row
party_cells r = Int (pos r.case) ∷ Int (pos r.number) ∷ Text r.name ∷ Int (pos (role_number r.role)) ∷ []

-- entry: case_no, number, day, body
abbrev pub entry_cells : EntryRow → Row
entry_cells r = Int (pos r.case) ∷ Int (pos r.number) ∷ Int (pos r.day) ∷ Text r.text ∷ []

-- deadline: case_no, number, party, rule, initial
abbrev pub deadline_cells : DeadlineRow → Row
deadline_cells r =
    Int (pos r.case) ∷ Int (pos r.number) ∷ Int (pos r.party) ∷ Text (deadline_rule_name r.rule) ∷ Int (pos (flag_number r.initial)) ∷ []

-- act: case_no, deadline_no, number, kind, p1, p2, p3, p4, p5
abbrev pub act_cells : ActRow → Row
act_cells r =
    Int (pos r.case) ∷ Int (pos r.deadline) ∷ Int (pos r.number)
    ∷ Int (pos (act_code r.act).kind) ∷ Int (act_code r.act).p1 ∷ Int (pos (act_code r.act).p2)
    ∷ Int (pos (act_code r.act).p3) ∷ Int (pos (act_code r.act).p4) ∷ Int (pos (act_code r.act).p5) ∷ []

-- what stands in place of an instant where the time runs to the end of its last day
abbrev pub whole_day : ℤ
whole_day = pos 9_999_999_999_999

abbrev pub moment_cell : Option ℤ → ℤ
moment_cell None = whole_day
moment_cell (Some at) = at

-- due: case_no, deadline_no, day, moment
abbrev pub end_cells : StoredEnd → Row
end_cells r = Int (pos r.case) ∷ Int (pos r.deadline) ∷ Int (pos r.end.day) ∷ Int (moment_cell r.end.moment) ∷ []

-- local_rule: number, name, days, direction, three, extendable
abbrev pub local_rule_cells : LocalRuleRow → Row
local_rule_cells r =
    Int (pos r.number) ∷ Text r.rule.name ∷ Int (pos r.rule.days) ∷ Int (pos (direction_number r.rule.direction))
    ∷ Int (pos (flag_number r.rule.three)) ∷ Int (pos (flag_number r.rule.extendable)) ∷ []

abbrev pub local_name_at : Value → Option (List ℕ)
local_name_at (Text text) = if is_local_name text then Some text else None
local_name_at _ = None

-- the local name in the column of names, whatever else the row has
abbrev pub local_name_in : Row → Option (List ℕ)
local_name_in row = local_name_at (column row 1)

-- receipt: command_key, body, reply
abbrev pub stored_cells : List ℕ → List ℕ → ℕ → Row
stored_cells key body reply = Text key ∷ Text body ∷ Int (pos reply) ∷ []

abbrev pub receipt_cells : Receipt → Row
receipt_cells r = stored_cells r.command.key (canonical r.command) r.reply.number

-- what is kept under a key, for a command with this body
abbrev pub kept_as : List ℕ → ℕ → List ℕ → Kept
kept_as stored reply body = if bytes_eq stored body then Same (replied reply) else Other
