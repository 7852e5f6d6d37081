-- What a history shows about a command, and the answer to it.
use Rattle.std.specs.Prelude.{◌≡◌, ℕ, ◌+◌, ◌==◌, Bool, false, ◌&&◌, if◌then◌else◌, List, [], ◌∷◌, ◌++◌, length, nat_le, Option, Some, None}
use Rattle.std.specs.List.{list_any, find}
use Rattle.std.specs.Str.{bytes_eq}
use Rattle.std.specs.Option.{option_and_then, option_map_or}
use Rattle.court_days.specs.Court.{CourtSettings}
use Rattle.docket_command.specs.Sameness.{is_same_command}
use Rattle.docket_command.specs.declared.command.Command.{Command}
use Rattle.docket_command.specs.declared.command.Action.{Action}
use Rattle.docket_command.specs.declared.refusal.Refusal.{Refusal}
use Rattle.docket_command.specs.declared.refusal.Reply.{Reply}
use Rattle.docket_history.specs.Actions.{CalendarWork, enters, imports, shortens, withdraws, CaseReply, its_party, its_entry, its_first_deadline, this_deadline, whether_in_time, Work, on_calendar, opens, enters_rule, in_case, work, opened, case_named, row_withdrawn, asks_calendar, asks_cases, asks_next_row, asks_local_rules, if_asked}
use Rattle.docket_history.specs.CalendarItems.{fresh, calendar_of}
use Rattle.docket_history.specs.Histories.{History, standing_rows, items_of, next_row, case_rows, party_rows, parties_of_case, entry_rows, entries_of_case, deadlines, local_rule_rows, local_rule_in}
use Rattle.docket_decisions.specs.Refusals.{refusal_of}
use Rattle.docket_history.specs.Times.{standing_shown, is_in_time}
use Rattle.docket_history.specs.Views.{parties_in, entries_in, count_deadlines, named_in, rule_name_asked, case_shown}
use Rattle.docket_history.specs.declared.row.CalendarRow.{CalendarRow}
use Rattle.docket_history.specs.declared.row.CaseRow.{CaseRow}
use Rattle.docket_history.specs.declared.row.Receipt.{Receipt}
use Rattle.docket_history.specs.declared.view.Kept.{Kept}
use Rattle.docket_history.specs.declared.view.Kept.TheVariants.{Fresh, Same, Other}
use Rattle.docket_history.specs.declared.view.View.{View}
use Rattle.docket_history.specs.declared.view.CaseView.{CaseView}

-- the label of a new case is in use
abbrev pub is_label_taken : Action → List CaseRow → Bool
is_label_taken a rows = option_map_or (λ case. list_any (λ row. bytes_eq row.label case.label) rows) (opened a) false

-- the row that is to be withdrawn is there
abbrev pub is_row_standing : Action → List CalendarRow → Bool
is_row_standing a rows = option_map_or (λ number. list_any (λ row. row.number == number) rows) (row_withdrawn a) false

-- the case of a number, if there is one, as an action needs it
abbrev pub case_of_number : History → Action → ℕ → Option CaseView
case_of_number h a k =
    if nat_le 1 k && nat_le k (length (case_rows h))
    then Some (case_shown k (length (parties_of_case k (party_rows h))) (length (entries_of_case k (entry_rows h))) (deadlines k h) a)
    else None

-- the case that an action names
abbrev pub case_of : History → Action → Option CaseView
case_of h a = option_and_then (case_of_number h a) (case_named a)

-- what a history shows about an action, under a key that is fresh: what the action asks about
abbrev pub shown_fresh : History → Action → View
shown_fresh h a = record {
  under_key = Fresh;
  cases = if_asked (asks_cases a) (length (case_rows h));
  label_taken = is_label_taken a (case_rows h);
  case = case_of h a;
  row_stands = is_row_standing a (standing_rows h);
  calendar = if asks_calendar a then items_of (standing_rows h) else [];
  next_row = if_asked (asks_next_row a) (next_row h);
  local = option_and_then (local_rule_in (local_rule_rows h)) (rule_name_asked (named_in (case_of h a)) a);
  local_rules = if_asked (asks_local_rules a) (length (local_rule_rows h));
}

-- the reply to what is done to the calendar: the number of the row that is added, how many rows are, or the number of the row that is
-- withdrawn
abbrev pub calendar_reply : View → CalendarWork → ℕ
calendar_reply v (enters row) = v.next_row
calendar_reply v (imports rows) = length (fresh v.calendar rows)
calendar_reply v (shortens a) = v.next_row
calendar_reply v (withdraws number) = number

-- the reply to what is done in a case; where it is whether a filing was in time, 1 means yes and 0 no
abbrev pub case_reply : CourtSettings → View → CaseReply → ℕ
case_reply court v its_party = parties_in v.case + 1
case_reply court v its_entry = entries_in v.case + 1
case_reply court v its_first_deadline = count_deadlines v.case + 1
case_reply court v (this_deadline n) = n
case_reply court v (whether_in_time at way) =
    if is_in_time court (calendar_of v.calendar) (standing_shown court v) at way then 1 else 0

abbrev pub reply_by : CourtSettings → View → Work → ℕ
reply_by court v (on_calendar work) = calendar_reply v work
reply_by court v (opens case) = v.cases + 1
reply_by court v (enters_rule rule) = v.local_rules + 1
reply_by court v (in_case work) = case_reply court v work.reply

-- the reply to an action that is accepted
abbrev pub reply_to : CourtSettings → View → Action → ℕ
reply_to court v a = reply_by court v (work a)

abbrev pub replied : ℕ → Reply
replied n = record { number = n }

-- each command with the reply that it had
abbrev pub receipts : CourtSettings → History → List Receipt
receipts court [] = []
receipts court (c ∷ before) =
    receipts court before
    ++ record { command = c; reply = replied (reply_to court (shown_fresh before c.action) c.action) } ∷ []

-- what was accepted under a command's key: the same command or another
abbrev pub kept_by : Option Receipt → Command → Kept
kept_by None c = Fresh
kept_by (Some r) c = if is_same_command r.command c then Same r.reply else Other

abbrev pub under_key : List Receipt → Command → Kept
under_key rs c = kept_by (find (λ r. bytes_eq r.command.key c.key) rs) c

-- what a history shows about a command
abbrev pub shown : CourtSettings → History → Command → View
shown court h c = record (shown_fresh h c.action) { under_key = under_key (receipts court h) c }

-- the answer to a command: the reply that it had before, a refusal, or the reply to a new one
pub data Answer : Type 0 where
  repeated : Reply → Answer
  refused : Refusal → Answer
  accepted : Reply → Answer

abbrev pub answer_by : CourtSettings → View → Action → Option Refusal → Answer
answer_by court v a (Some r) = refused r
answer_by court v a None = accepted (replied (reply_to court v a))

abbrev pub answer_kept : CourtSettings → Kept → View → Command → Answer
answer_kept court (Same reply) v c = repeated reply
answer_kept court _ v c = answer_by court v c.action (refusal_of court v c)

-- the answer to a command, by what is shown about it
abbrev pub answer_of : CourtSettings → View → Command → Answer
answer_of court v c = answer_kept court v.under_key v c

-- the answer to a command, after a history
abbrev pub outcome : CourtSettings → History → Command → Answer
outcome court h c = answer_of court (shown court h c) c

abbrev pub after_answer : Answer → History → Command → History
after_answer (accepted n) h c = c ∷ h
after_answer _ h c = h

-- the history that a command leaves
abbrev pub after : CourtSettings → History → Command → History
after court h c = after_answer (outcome court h c) h c

-- the history that commands in order leave, each judged in the history before it
abbrev pub run : CourtSettings → History → List Command → History
run court h [] = h
run court h (c ∷ cs) = run court (after court h c) cs

-- the answers to commands in order
abbrev pub answers : CourtSettings → History → List Command → List Answer
answers court h [] = []
answers court h (c ∷ cs) = outcome court h c ∷ answers court (after court h c) cs

-- each command was accepted in the list before it
abbrev pub IsHistory : CourtSettings → History → Type 0
IsHistory court [] = Unit {0}
IsHistory court (c ∷ before) = ((reply : Reply) × (outcome court before c ≡ accepted reply)) × IsHistory court before
