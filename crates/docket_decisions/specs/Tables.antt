-- The tables of a history, and changes of their rows.
use Rattle.std.specs.Prelude.{ℕ, Bool, ◌+◌, ◌==◌, not, ◌&&◌, if◌then◌else◌, nat_le, List, [], ◌∷◌, ◌++◌, length, filter, map, Option, Some, None}
use Rattle.std.specs.Option.{option_and_then}
use Rattle.court_days.specs.Court.{CourtSettings}
use Rattle.docket_command.specs.declared.command.Command.{Command}
use Rattle.docket_command.specs.declared.command.Action.{Action}
use Rattle.docket_command.specs.declared.refusal.Reply.{Reply}
use Rattle.docket_history.specs.Actions.{case_named, row_withdrawn, asks_calendar, asks_cases, asks_next_row, asks_local_rules, if_asked}
use Rattle.docket_history.specs.Histories.{History, standing_rows, next_row, items_of, numbered, rows_added, case_rows, party_rows, entry_rows, deadline_rows, act_rows, new_case, new_party, new_entry, new_deadlines, first_acts, later_acts, parties_of_case, entries_of_case, deadlines_of_case, deadlines_from, local_rule_rows, new_local_rule, local_rule_in}
use Rattle.docket_decisions.specs.Outcomes.{receipts, under_key, is_label_taken, is_row_standing}
use Rattle.docket_history.specs.Views.{parties_in, entries_in, count_deadlines, deadline_shown, acts_in, named_in, rule_name_asked, case_shown}
use Rattle.docket_history.specs.declared.row.Change.{Change}
use Rattle.docket_history.specs.declared.row.Change.TheVariants.{AddCalendar, RemoveCalendar, AddCase, AddParty, AddEntry, AddDeadline, AddAct, AddLocalRule}
use Rattle.docket_history.specs.declared.row.CalendarRow.{CalendarRow}
use Rattle.docket_history.specs.declared.row.CaseRow.{CaseRow}
use Rattle.docket_history.specs.declared.row.PartyRow.{PartyRow}
use Rattle.docket_history.specs.declared.row.EntryRow.{EntryRow}
use Rattle.docket_history.specs.declared.row.DeadlineRow.{DeadlineRow}
use Rattle.docket_history.specs.declared.row.ActRow.{ActRow}
use Rattle.docket_history.specs.declared.row.LocalRuleRow.{LocalRuleRow}
use Rattle.docket_history.specs.declared.row.Receipt.{Receipt}
use Rattle.docket_history.specs.declared.view.CaseView.{CaseView}
use Rattle.docket_history.specs.declared.view.DeadlineView.{DeadlineView}
use Rattle.docket_history.specs.declared.view.View.{View}

pub record Tables : Type 0 where
  pub next_row : ℕ
  pub calendar : List CalendarRow
  pub cases : List CaseRow
  pub parties : List PartyRow
  pub entries : List EntryRow
  pub deadlines : List DeadlineRow
  pub acts : List ActRow
  pub receipts : List Receipt
  pub local_rules : List LocalRuleRow

-- the tables of a history
abbrev pub rows_of : CourtSettings → History → Tables
rows_of court h = record {
  next_row = next_row h;
  calendar = standing_rows h;
  cases = case_rows h;
  parties = party_rows h;
  entries = entry_rows h;
  deadlines = deadline_rows h;
  acts = act_rows h;
  receipts = receipts court h;
  local_rules = local_rule_rows h;
}

-- a change of one row
abbrev pub changed : Change → Tables → Tables
changed (AddCalendar row) t = record t { calendar = t.calendar ++ row ∷ []; next_row = t.next_row + 1 }
changed (RemoveCalendar number) t = record t { calendar = filter (λ row. not (row.number == number)) t.calendar }
changed (AddCase row) t = record t { cases = t.cases ++ row ∷ [] }
changed (AddParty row) t = record t { parties = t.parties ++ row ∷ [] }
changed (AddEntry row) t = record t { entries = t.entries ++ row ∷ [] }
changed (AddDeadline row) t = record t { deadlines = t.deadlines ++ row ∷ [] }
changed (AddAct row) t = record t { acts = t.acts ++ row ∷ [] }
changed (AddLocalRule row) t = record t { local_rules = t.local_rules ++ row ∷ [] }

-- the changes, one after another
abbrev pub all_changed : List Change → Tables → Tables
all_changed [] t = t
all_changed (x ∷ xs) t = all_changed xs (changed x t)

-- with a receipt for a command
abbrev pub with_receipt : Command → Reply → Tables → Tables
with_receipt c reply t = record t { receipts = t.receipts ++ record { command = c; reply = reply } ∷ [] }

abbrev pub withdrawal : Option ℕ → List Change
withdrawal None = []
withdrawal (Some number) = RemoveCalendar number ∷ []

abbrev pub calendar_changes : View → Action → List Change
calendar_changes v a = map AddCalendar (numbered v.next_row (rows_added v.calendar a))

abbrev pub case_changes : View → Action → List Change
case_changes v a = map AddCase (new_case v.cases a)

abbrev pub party_changes : View → Action → List Change
party_changes v a = map AddParty (new_party (parties_in v.case) a)

abbrev pub entry_changes : View → Action → List Change
entry_changes v a = map AddEntry (new_entry (entries_in v.case) a)

abbrev pub deadline_changes : View → Action → List Change
deadline_changes v a = map AddDeadline (new_deadlines v.local (count_deadlines v.case) a)

abbrev pub first_act_changes : View → Action → List Change
first_act_changes v a = map AddAct (first_acts v.local (count_deadlines v.case) a)

abbrev pub act_changes : View → Action → List Change
act_changes v a = map AddAct (later_acts (length (acts_in (deadline_shown v))) a)

abbrev pub local_rule_changes : View → Action → List Change
local_rule_changes v a = map AddLocalRule (new_local_rule v.local_rules a)

-- the changes of an action, but for the receipt
abbrev pub action_changes : View → Action → List Change
action_changes v a =
    withdrawal (row_withdrawn a)
    ++ calendar_changes v a
    ++ case_changes v a
    ++ party_changes v a
    ++ entry_changes v a
    ++ deadline_changes v a
    ++ first_act_changes v a
    ++ act_changes v a
    ++ local_rule_changes v a

-- what tables show

abbrev pub is_case_in : Tables → ℕ → Bool
is_case_in t k = nat_le 1 k && nat_le k (length t.cases)

-- the deadlines of a case, in order, each with its acts
abbrev pub deadlines_in : Tables → ℕ → List DeadlineView
deadlines_in t k = deadlines_from k 1 t.acts (deadlines_of_case k t.deadlines)

-- those of the case of a number, if there is one
abbrev pub case_deadlines : Tables → ℕ → Option (List DeadlineView)
case_deadlines t k = if is_case_in t k then Some (deadlines_in t k) else None

-- the case of a number, if there is one, as an action needs it
abbrev pub case_in : Tables → Action → ℕ → Option CaseView
case_in t a k =
    if is_case_in t k
    then Some (case_shown k (length (parties_of_case k t.parties)) (length (entries_of_case k t.entries)) (deadlines_in t k) a)
    else None

-- the case that an action names
abbrev pub case_named_in : Tables → Action → Option CaseView
case_named_in t a = option_and_then (case_in t a) (case_named a)

abbrev pub view_in : Tables → Command → View
view_in t c = record {
  under_key = under_key t.receipts c;
  cases = if_asked (asks_cases c.action) (length t.cases);
  label_taken = is_label_taken c.action t.cases;
  case = case_named_in t c.action;
  row_stands = is_row_standing c.action t.calendar;
  calendar = if asks_calendar c.action then items_of t.calendar else [];
  next_row = if_asked (asks_next_row c.action) t.next_row;
  local = option_and_then (local_rule_in t.local_rules) (rule_name_asked (named_in (case_named_in t c.action)) c.action);
  local_rules = if_asked (asks_local_rules c.action) (length t.local_rules);
}
