-- Tables in which a docket's rows are numbered, and hold what their types hold.
use Rattle.std.specs.Prelude.{◌≡◌, ℕ, suc, ◌<◌, ◌≤◌, ◌==◌, ◌&&◌, List, [], ◌∷◌, map, filter, length, bytes_eq, IsUtf8}
use Rattle.std.specs.List.{AllByRecursion}
use Rattle.court_days.specs.Court.{CourtSettings}
use Rattle.docket_history.specs.Histories.{parties_of_case, entries_of_case, deadlines_of_case}
use Rattle.docket_history.specs.ShortDays.{day_and_span_rows, short_day_rows}
use Rattle.docket_decisions.specs.EndRows.{end_rows}
use Rattle.docket_decisions.specs.Tables.{Tables}
use Rattle.docket_history.specs.declared.row.ActRow.{ActRow}
use Rattle.docket_history.specs.declared.row.CaseRow.{CaseRow}
use Rattle.docket_history.specs.declared.row.LocalRuleRow.{LocalRuleRow}
use Rattle.docket_history.specs.declared.row.Receipt.{Receipt}
use Rattle.docket_columns.specs.Fits.{IsCourtRow, IsCalendarRow, IsShortDayRow, IsCaseRow, IsPartyRow, IsEntryRow, IsDeadlineRow, IsActRow, IsEndRow, IsReceipt, IsLocalRuleRow}

-- what the types hold of a court
abbrev pub IsCourtSettings : CourtSettings → Type 0
IsCourtSettings court = IsUtf8 court.zone_text × (court.close_minute < 1440)

-- each number is below those after it
abbrev pub Rises : List ℕ → Type 0
Rises [] = Unit {0}
Rises (n ∷ more) = AllByRecursion (λ m. n < m) more × Rises more

-- the numbers run from that number on, without gaps
abbrev pub RunsFrom : ℕ → List ℕ → Type 0
RunsFrom n [] = Unit {0}
RunsFrom n (m ∷ more) = (m ≡ n) × RunsFrom (suc n) more

abbrev pub acts_on : ℕ → ℕ → List ActRow → List ActRow
acts_on k n rows = filter (λ row. row.case == k && row.deadline == n) rows

abbrev pub cases_labelled : List ℕ → List CaseRow → List CaseRow
cases_labelled label rows = filter (λ row. bytes_eq row.label label) rows

abbrev pub receipts_under : List ℕ → List Receipt → List Receipt
receipts_under key rows = filter (λ row. bytes_eq row.command.key key) rows

abbrev pub local_rules_named : List ℕ → List LocalRuleRow → List LocalRuleRow
local_rules_named name rows = filter (λ row. bytes_eq row.rule.name name) rows

pub record IsOrderly (settings : CourtSettings) (t : Tables) : Type 0 where
  pub court : IsCourtRow settings t.next_row
  pub calendar : AllByRecursion IsCalendarRow (day_and_span_rows t.calendar)
  pub short_days : AllByRecursion IsShortDayRow (short_day_rows t.calendar)
  pub calendar_rises : Rises (map (λ row. row.number) t.calendar)
  pub cases : AllByRecursion IsCaseRow t.cases
  pub cases_run : RunsFrom 1 (map (λ row. row.number) t.cases)
  pub one_case : (label : List ℕ) → length (cases_labelled label t.cases) ≤ 1
  pub parties : AllByRecursion IsPartyRow t.parties
  pub parties_run : (k : ℕ) → RunsFrom 1 (map (λ row. row.number) (parties_of_case k t.parties))
  pub entries : AllByRecursion IsEntryRow t.entries
  pub entries_run : (k : ℕ) → RunsFrom 1 (map (λ row. row.number) (entries_of_case k t.entries))
  pub deadlines : AllByRecursion IsDeadlineRow t.deadlines
  pub deadlines_run : (k : ℕ) → RunsFrom 1 (map (λ row. row.number) (deadlines_of_case k t.deadlines))
  pub acts : AllByRecursion IsActRow t.acts
  pub acts_run : (k n : ℕ) → RunsFrom 1 (map (λ row. row.number) (acts_on k n t.acts))
  pub ends : AllByRecursion IsEndRow (end_rows settings t)
  pub receipts : AllByRecursion IsReceipt t.receipts
  pub one_receipt : (key : List ℕ) → length (receipts_under key t.receipts) ≤ 1
  pub local_rules : AllByRecursion IsLocalRuleRow t.local_rules
  pub local_rules_run : RunsFrom 1 (map (λ row. row.number) t.local_rules)
  pub one_local_rule : (name : List ℕ) → length (local_rules_named name t.local_rules) ≤ 1
