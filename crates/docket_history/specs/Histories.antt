-- Histories, and what they define. A history is the list of the commands that were accepted, the newest first.
use Rattle.std.specs.Prelude.{ℕ, ◌+◌, ◌==◌, not, ◌&&◌, List, [], ◌∷◌, ◌++◌, map, length, filter, Option, Some, None, unwrap_or, option_to_list}
use Rattle.std.specs.List.{find}
use Rattle.std.specs.Option.{option_map, option_and_then}
use Rattle.std.specs.Str.{bytes_eq}
use Rattle.court_rules.specs.declared.act.Act.{Act}
use Rattle.court_rules.specs.declared.local_rule.LocalRule.{LocalRule}
use Rattle.docket_command.specs.declared.case_action.AddParty.{AddParty}
use Rattle.docket_command.specs.declared.case_action.FileEntry.{FileEntry}
use Rattle.docket_command.specs.declared.case_action.OpenCase.{OpenCase}
use Rattle.docket_command.specs.declared.command.Command.{Command}
use Rattle.docket_command.specs.declared.command.Action.{Action}
use Rattle.docket_history.specs.Actions.{FoundRule, opened, rule_entered, party_entered, entry_entered, case_named, deadline_named, local_rule_named, row_withdrawn, rows_asked, deadlines_made, acts_made}
use Rattle.docket_history.specs.CalendarItems.{fresh}
use Rattle.docket_history.specs.declared.row.NewDeadline.{NewDeadline}
use Rattle.docket_history.specs.declared.item.CalendarItem.{CalendarItem}
use Rattle.docket_history.specs.declared.item.NewRow.{NewRow}
use Rattle.docket_history.specs.declared.row.CalendarRow.{CalendarRow}
use Rattle.docket_history.specs.declared.row.CaseRow.{CaseRow}
use Rattle.docket_history.specs.declared.row.PartyRow.{PartyRow}
use Rattle.docket_history.specs.declared.row.EntryRow.{EntryRow}
use Rattle.docket_history.specs.declared.row.DeadlineRow.{DeadlineRow}
use Rattle.docket_history.specs.declared.row.LocalRuleRow.{LocalRuleRow}
use Rattle.docket_history.specs.declared.row.ActRow.{ActRow}
use Rattle.docket_history.specs.declared.view.DeadlineView.{DeadlineView}

abbrev pub History : Type 0
History = List Command

-- the rows that commands make, in order: what each makes, given the commands before it and their rows
abbrev pub rows_by : {R : Type 0} → (History → List R → Action → List R) → History → List R
rows_by made [] = []
rows_by made (c ∷ before) = let rows = rows_by made before in rows ++ made before rows c.action

-- the calendar

abbrev pub items_of : List CalendarRow → List CalendarItem
items_of rows = map (λ row. row.item) rows

-- new rows, numbered from a number on
abbrev pub numbered : ℕ → List NewRow → List CalendarRow
numbered number [] = []
numbered number (new ∷ others) =
    record { number = number; item = new.item; name = new.name } ∷ numbered (number + 1) others

-- those that are not withdrawn
abbrev pub without_row : Option ℕ → List CalendarRow → List CalendarRow
without_row None rows = rows
without_row (Some number) rows = filter (λ row. not (row.number == number)) rows

-- the rows that an action adds to those that are there
abbrev pub rows_added : List CalendarItem → Action → List NewRow
rows_added standing a = fresh standing (rows_asked a)

-- the present rows, and the number of the next row: rows are numbered from 1 over all that were ever added
abbrev mutual
  pub standing_rows : History → List CalendarRow
  standing_rows [] = []
  standing_rows (c ∷ before) =
      without_row (row_withdrawn c.action) (standing_rows before)
      ++ numbered (next_row before) (rows_added (items_of (standing_rows before)) c.action)

  pub next_row : History → ℕ
  next_row [] = 1
  next_row (c ∷ before) =
      next_row before + length (rows_added (items_of (standing_rows before)) c.action)

-- cases, parties and entries

-- a case of that number
abbrev pub case_row : ℕ → OpenCase → CaseRow
case_row number a = record { number = number; label = a.label; caption = a.caption; filed = a.filed }

-- the case that an action opens, after so many
abbrev pub new_case : ℕ → Action → List CaseRow
new_case count a = option_to_list (option_map (case_row (count + 1)) (opened a))

abbrev pub case_rows : History → List CaseRow
case_rows h = rows_by (λ _ rows a. new_case (length rows) a) h

-- the case that an action names, or 0
abbrev pub case_number : Action → ℕ
case_number a = unwrap_or (case_named a) 0

abbrev pub parties_of_case : ℕ → List PartyRow → List PartyRow
parties_of_case k rows = filter (λ row. row.case == k) rows

-- a party of that number
abbrev pub party_row : ℕ → AddParty → PartyRow
party_row number a = record { case = a.case; number = number; name = a.name; role = a.role }

-- the party that an action adds, after so many in its case
abbrev pub new_party : ℕ → Action → List PartyRow
new_party count a = option_to_list (option_map (party_row (count + 1)) (party_entered a))

abbrev pub party_rows : History → List PartyRow
party_rows h = rows_by (λ _ rows a. new_party (length (parties_of_case (case_number a) rows)) a) h

abbrev pub entries_of_case : ℕ → List EntryRow → List EntryRow
entries_of_case k rows = filter (λ row. row.case == k) rows

-- an entry of that number
abbrev pub entry_row : ℕ → FileEntry → EntryRow
entry_row number a = record { case = a.case; number = number; day = a.day; text = a.text }

-- the entry that an action files, after so many in its case
abbrev pub new_entry : ℕ → Action → List EntryRow
new_entry count a = option_to_list (option_map (entry_row (count + 1)) (entry_entered a))

abbrev pub entry_rows : History → List EntryRow
entry_rows h = rows_by (λ _ rows a. new_entry (length (entries_of_case (case_number a) rows)) a) h

-- the court's own rules

-- a local rule of that number
abbrev pub local_rule_row : ℕ → LocalRule → LocalRuleRow
local_rule_row number a = record { number = number; rule = a }

-- the local rule that an action enters, after so many
abbrev pub new_local_rule : ℕ → Action → List LocalRuleRow
new_local_rule count a = option_to_list (option_map (local_rule_row (count + 1)) (rule_entered a))

abbrev pub local_rule_rows : History → List LocalRuleRow
local_rule_rows h = rows_by (λ _ rows a. new_local_rule (length rows) a) h

-- the local rule of a name
abbrev pub local_rule_in : List LocalRuleRow → List ℕ → FoundRule
local_rule_in rows name = option_map (λ row. row.rule) (find (λ row. bytes_eq row.rule.name name) rows)

-- the local rule that an action names, where it was entered before
abbrev pub rule_found : History → Action → FoundRule
rule_found before a = option_and_then (local_rule_in (local_rule_rows before)) (local_rule_named a)

-- deadlines and their acts

abbrev pub deadlines_of_case : ℕ → List DeadlineRow → List DeadlineRow
deadlines_of_case k rows = filter (λ row. row.case == k) rows

-- new deadlines of a case, numbered from a number on
abbrev pub deadline_rows_from : ℕ → ℕ → List NewDeadline → List DeadlineRow
deadline_rows_from k number [] = []
deadline_rows_from k number (d ∷ ds) =
    record { case = k; number = number; party = d.party; rule = d.rule; initial = d.initial }
    ∷ deadline_rows_from k (number + 1) ds

-- their first acts
abbrev pub first_acts_from : ℕ → ℕ → List NewDeadline → List ActRow
first_acts_from k number [] = []
first_acts_from k number (d ∷ ds) =
    record { case = k; deadline = number; number = 1; act = d.first } ∷ first_acts_from k (number + 1) ds

-- the deadlines that an action makes, after so many in the case
abbrev pub new_deadlines : FoundRule → ℕ → Action → List DeadlineRow
new_deadlines found count a = deadline_rows_from (case_number a) (count + 1) (deadlines_made found a)

abbrev pub deadline_rows : History → List DeadlineRow
deadline_rows h =
    rows_by (λ before rows a. new_deadlines (rule_found before a) (length (deadlines_of_case (case_number a) rows)) a) h

-- the first acts of new deadlines, after so many deadlines in the case
abbrev pub first_acts : FoundRule → ℕ → Action → List ActRow
first_acts found count a = first_acts_from (case_number a) (count + 1) (deadlines_made found a)

-- the deadline that an action names, or 0
abbrev pub deadline_number : Action → ℕ
deadline_number a = unwrap_or (deadline_named a) 0

-- acts on deadline n of case k, numbered from a number on
abbrev pub act_rows_on : ℕ → ℕ → ℕ → List Act → List ActRow
act_rows_on k n number [] = []
act_rows_on k n number (act ∷ acts) =
    record { case = k; deadline = n; number = number; act = act } ∷ act_rows_on k n (number + 1) acts

-- the acts that an action adds to the deadline that it names, after so many
abbrev pub later_acts : ℕ → Action → List ActRow
later_acts count a = act_rows_on (case_number a) (deadline_number a) (count + 1) (acts_made a)

abbrev pub acts_of_deadline : ℕ → ℕ → List ActRow → List Act
acts_of_deadline k n rows = map (λ row. row.act) (filter (λ row. row.case == k && row.deadline == n) rows)

abbrev pub act_rows : History → List ActRow
act_rows h =
    rows_by (λ before rows a.
    first_acts (rule_found before a) (length (deadlines_of_case (case_number a) (deadline_rows before))) a
    ++ later_acts (length (acts_of_deadline (case_number a) (deadline_number a) rows)) a) h

-- deadlines with their acts, numbered from a number on
abbrev pub deadlines_from : ℕ → ℕ → List ActRow → List DeadlineRow → List DeadlineView
deadlines_from k n acts [] = []
deadlines_from k n acts (row ∷ rows) =
    record { party = row.party; rule = row.rule; initial = row.initial; acts = acts_of_deadline k n acts }
    ∷ deadlines_from k (n + 1) acts rows

-- the deadlines of a case, in order, each with its acts
abbrev pub deadlines : ℕ → History → List DeadlineView
deadlines k h = deadlines_from k 1 (act_rows h) (deadlines_of_case k (deadline_rows h))
