-- What a history defines about its cases and deadlines.
use Rattle.std.specs.Prelude.{ℕ, zero, suc, ◌+◌, ◌&&◌, if◌then◌else◌, nat_le, List, [], ◌∷◌, length, slice_get, find, bytes_eq, Option, Some, None}
use Rattle.court_days.specs.Calendar.{Entered}
use Rattle.court_days.specs.Court.{CourtSettings, zone_of}
use Rattle.court_days.specs.Timely.{closing}
use Rattle.court_days.specs.declared.filing.End.{End}
use Rattle.court_days.specs.declared.filing.End.TheVariants.{LastDay, Moment}
use Rattle.court_rules.specs.LocalRules.{deadline_rule_name}
use Rattle.court_rules.specs.Standings.{standing}
use Rattle.court_rules.specs.declared.act.Standing.{Standing}
use Rattle.court_rules.specs.declared.act.Standing.TheVariants.{Running}
use Rattle.docket_history.specs.CalendarItems.{calendar_of}
use Rattle.docket_history.specs.Histories.{History, standing_rows, items_of, case_rows, party_rows, parties_of_case, entry_rows, entries_of_case, deadlines}
use Rattle.docket_history.specs.declared.record.CaseRecord.{CaseRecord}
use Rattle.docket_history.specs.declared.record.DeadlineLine.{DeadlineLine}
use Rattle.docket_history.specs.declared.row.CaseRow.{CaseRow}
use Rattle.docket_history.specs.declared.row.PartyRow.{PartyRow}
use Rattle.docket_history.specs.declared.row.EntryRow.{EntryRow}
use Rattle.docket_history.specs.declared.view.DeadlineView.{DeadlineView}

-- the case that has a label
abbrev pub case_labelled : List CaseRow → List ℕ → Option CaseRow
case_labelled rows label = find (λ row. bytes_eq row.label label) rows

-- the case of a number, from 1
abbrev pub case_at : List CaseRow → ℕ → Option CaseRow
case_at rows zero = None
case_at rows (suc n) = slice_get rows n

-- a case with its parties and its entries
abbrev pub record_of : List PartyRow → List EntryRow → Option CaseRow → Option CaseRecord
record_of parties entries None = None
record_of parties entries (Some row) =
    Some (record {
      number = row.number;
      label = row.label;
      caption = row.caption;
      filed = row.filed;
      parties = parties_of_case row.number parties;
      entries = entries_of_case row.number entries;
    })

abbrev pub case_record : History → ℕ → Option CaseRecord
case_record h k = record_of (party_rows h) (entry_rows h) (case_at (case_rows h) k)

-- when the clerk's office is scheduled to close on the last day of a time; 0 where the time ends at an instant
abbrev pub close_of_end : CourtSettings → Entered → End → ℕ
close_of_end court entered (LastDay day) = closing court entered day
close_of_end court entered (Moment at) = 0

-- 0 too where no time runs
abbrev pub close_of_standing : CourtSettings → Entered → Standing → ℕ
close_of_standing court entered (Running end) = close_of_end court entered end
close_of_standing court entered _ = 0

-- a deadline with where it stands
abbrev pub line_of : CourtSettings → Entered → ℕ → DeadlineView → Standing → DeadlineLine
line_of court entered number d stands = record {
  number = number;
  party = d.party;
  rule = deadline_rule_name d.rule;
  standing = stands;
  close = close_of_standing court entered stands;
}

-- deadlines numbered from a number on, each with where it stands
abbrev pub lines_from : CourtSettings → Entered → ℕ → List DeadlineView → List DeadlineLine
lines_from court entered number [] = []
lines_from court entered number (d ∷ ds) =
    line_of court entered number d (standing (zone_of court) entered d.acts)
    ∷ lines_from court entered (number + 1) ds

-- the calendar of a history
abbrev pub calendar : History → Entered
calendar h = calendar_of (items_of (standing_rows h))

-- the deadlines of a case, by that calendar; none where there is no such case
abbrev pub deadline_lines : CourtSettings → History → ℕ → Option (List DeadlineLine)
deadline_lines court h k =
    if nat_le 1 k && nat_le k (length (case_rows h))
    then Some (lines_from court (calendar h) 1 (deadlines k h))
    else None
