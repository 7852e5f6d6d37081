-- The rows that the types hold: a definition of specs/ knows of a field that it is a number or a list of bytes, and no more.
use Rattle.std.specs.Prelude.{◌≡◌, ◌≢◌, ℕ, ◌<◌, ◌≤◌, ◌^◌, ℤ, List, [], Option, Some, None, FitsSigned}
use Rattle.std.specs.Int.{w64}
use Rattle.std.specs.Str.{IsUtf8}
use Rattle.civil_time.specs.Civil.{IsDayNumber}
use Rattle.court_days.specs.Court.{CourtSettings}
use Rattle.court_rules.specs.LocalRules.{IsDeadlineRule}
use Rattle.court_rules.specs.declared.act.Act.{Act}
use Rattle.court_rules.specs.declared.act.Act.TheVariants as act
use Rattle.court_rules.specs.declared.act.Start.{Start}
use Rattle.court_rules.specs.declared.act.Start.TheVariants as start
use Rattle.docket_command.specs.Moments.{IsWholeMinute}
use Rattle.docket_history.specs.declared.item.CalendarItem.{CalendarItem}
use Rattle.docket_history.specs.declared.item.CalendarItem.TheVariants as item
use Rattle.docket_decisions.specs.declared.end_row.StoredEnd.{StoredEnd}
use Rattle.docket_decisions.specs.declared.end_row.EndTime.{EndTime}
use Rattle.docket_history.specs.declared.row.CalendarRow.{CalendarRow}
use Rattle.docket_history.specs.declared.row.CaseRow.{CaseRow}
use Rattle.docket_history.specs.declared.row.ShortDayRow.{ShortDayRow}
use Rattle.docket_history.specs.declared.row.PartyRow.{PartyRow}
use Rattle.docket_history.specs.declared.row.EntryRow.{EntryRow}
use Rattle.docket_history.specs.declared.row.DeadlineRow.{DeadlineRow}
use Rattle.docket_history.specs.declared.row.ActRow.{ActRow}
use Rattle.docket_history.specs.declared.row.LocalRuleRow.{LocalRuleRow}
use Rattle.docket_history.specs.declared.row.Receipt.{Receipt}
use Rattle.docket_wire.specs.Valid.{IsCommand, IsMinute}
use Rattle.docket_columns.specs.Cells.{whole_day}
use Rattle.docket_columns.specs.Codes.{unit_count}

-- a number of a row, a party, a count
abbrev pub IsCount : ℕ → Type 0
IsCount n = n < 2 ^ 32

-- an instant, in seconds
abbrev pub IsSeconds : ℤ → Type 0
IsSeconds at = FitsSigned w64 at

abbrev pub IsCourtRow : CourtSettings → ℕ → Type 0
IsCourtRow c next = IsUtf8 c.zone_text × (c.close_minute < 1440) × (next ≤ 2 ^ 32)

-- an item of the calendar's table, which has no short days
abbrev pub IsItem : CalendarItem → Type 0
IsItem (item.Day kind day) = IsDayNumber day
IsItem (item.Span start end) = IsWholeMinute start × IsWholeMinute end
IsItem (item.Short day close) = ⊥

-- the name of a span is empty
abbrev pub IsNameOf : CalendarItem → List ℕ → Type 0
IsNameOf (item.Span start end) name = name ≡ []
IsNameOf _ name = Unit {0}

abbrev pub IsCalendarRow : CalendarRow → Type 0
IsCalendarRow r = IsCount r.number × IsItem r.item × IsNameOf r.item r.name × IsUtf8 r.name

abbrev pub IsShortDayRow : ShortDayRow → Type 0
IsShortDayRow r = IsCount r.number × IsDayNumber r.day × IsMinute r.close × IsUtf8 r.name

abbrev pub IsCaseRow : CaseRow → Type 0
IsCaseRow r = IsCount r.number × IsUtf8 r.label × IsUtf8 r.caption × IsDayNumber r.filed

abbrev pub IsPartyRow : PartyRow → Type 0
IsPartyRow r = IsCount r.case × IsCount r.number × IsUtf8 r.name

abbrev pub IsEntryRow : EntryRow → Type 0
IsEntryRow r = IsCount r.case × IsCount r.number × IsDayNumber r.day × IsUtf8 r.text

-- the rule is one of the table, or has a name that a local one may have
abbrev pub IsDeadlineRow : DeadlineRow → Type 0
IsDeadlineRow r = IsCount r.case × IsCount r.number × IsCount r.party × IsDeadlineRule r.rule

abbrev pub IsLocalRuleRow : LocalRuleRow → Type 0
IsLocalRuleRow r = IsCount r.number × IsUtf8 r.rule.name × IsCount r.rule.days

abbrev pub IsStart : Start → Type 0
IsStart (start.Days s) = IsDayNumber s.trigger × IsCount (unit_count s.period)
IsStart (start.Hours s) = IsSeconds s.at × IsCount s.hours

abbrev pub IsAct : Act → Type 0
IsAct (act.Start s) = IsStart s
IsAct (act.Fixed day) = IsDayNumber day
IsAct (act.ExtendBy days) = IsCount days
IsAct (act.ExtendTo day) = IsDayNumber day
IsAct (act.Motion served kind) = IsDayNumber served
IsAct (act.Resume day three) = IsDayNumber day
IsAct (act.AwaitStatement notice) = IsDayNumber notice
IsAct (act.Done at way) = IsSeconds at
IsAct act.Vacated = Unit {0}

abbrev pub IsActRow : ActRow → Type 0
IsActRow r = IsCount r.case × IsCount r.deadline × IsCount r.number × IsAct r.act

-- an instant, which is not what stands in place of one
abbrev pub IsStoredMoment : Option ℤ → Type 0
IsStoredMoment None = Unit {0}
IsStoredMoment (Some at) = IsSeconds at × (at ≢ whole_day)

abbrev pub IsEndTime : EndTime → Type 0
IsEndTime end = IsDayNumber end.day × IsStoredMoment end.moment

abbrev pub IsEndRow : StoredEnd → Type 0
IsEndRow r = IsCount r.case × IsCount r.deadline × IsEndTime r.end

abbrev pub IsReceipt : Receipt → Type 0
IsReceipt r = IsCommand r.command × IsCount r.reply.number
