-- What each kind of command names, enters, makes and replies, and what it asks about.
use Rattle.std.specs.Prelude.{ℕ, zero, suc, Bool, true, false, ◌||◌, if◌then◌else◌, List, [], ◌∷◌, map, Option, Some, None, is_some, unwrap_or, option_to_list, pos}
use Rattle.std.specs.Option.{option_and_then, option_map, option_map_or}
use Rattle.court_days.specs.declared.calendar.DayKind.{DayKind}
use Rattle.court_days.specs.declared.calendar.DayKind.TheVariants as kind
use Rattle.court_days.specs.declared.filing.Way.{Way}
use Rattle.court_rules.specs.Rules.{adds_three}
use Rattle.court_rules.specs.declared.act.Act.{Act}
use Rattle.court_rules.specs.declared.act.Act.TheVariants as act
use Rattle.court_rules.specs.declared.local_rule.LocalRule.{LocalRule}
use Rattle.court_rules.specs.declared.rule.Rule.TheVariants.{ReplyToAnswer, AnswerAfterStatement}
use Rattle.docket_command.specs.Conversions.{day_kind_of, method_of}
use Rattle.docket_command.specs.declared.command.Action.{Action}
use Rattle.docket_command.specs.declared.command.Action.TheVariants as action
use Rattle.docket_command.specs.declared.calendar_action.ShortDay.{ShortDay}
use Rattle.docket_command.specs.declared.choice.Ruling.{Ruling}
use Rattle.docket_command.specs.declared.choice.Ruling.TheVariants.{Denied, Postponed, Statement}
use Rattle.docket_command.specs.declared.case_action.AddParty.{AddParty}
use Rattle.docket_command.specs.declared.case_action.FileEntry.{FileEntry}
use Rattle.docket_command.specs.declared.case_action.OpenCase.{OpenCase}
use Rattle.docket_command.specs.declared.motion_action.Dispose.{Dispose}
use Rattle.docket_command.specs.declared.motion_action.RuleMotion.{RuleMotion}
use Rattle.docket_command.specs.declared.new_day.NewDay.{NewDay}
use Rattle.docket_command.specs.declared.service_action.FileWaiver.{FileWaiver}
use Rattle.docket_command.specs.declared.time_action.Extend.{Extend}
use Rattle.docket_history.specs.DeadlinesMade.{timed_or_set, ordered, court_ordered, judgment_times, statement_ordered, local_time, summons_time, waiver_time, pleading_time, hearing_times, ruled, extension}
use Rattle.docket_history.specs.declared.row.NewDeadline.{NewDeadline}
use Rattle.docket_history.specs.declared.item.CalendarItem.TheVariants.{Day, Span, Short}
use Rattle.docket_history.specs.declared.item.NewRow.{NewRow}
use Rattle.docket_history.specs.declared.subject.Subject.{Subject}

-- every party is named by 0 where a period is ordered
abbrev pub party_ordered : ℕ → List ℕ
party_ordered zero = []
party_ordered (suc n) = suc n ∷ []

-- a number if it is asked for, else 0
abbrev pub if_asked : Bool → ℕ → ℕ
if_asked asked n = if asked then n else 0

abbrev pub day_row : DayKind → ℕ → List ℕ → NewRow
day_row kind day name = record { item = Day kind day; name = name }

-- the row of a day that is imported
abbrev pub imported : NewDay → NewRow
imported new = day_row new.kind new.day new.name

-- a local rule, where one was found
abbrev pub FoundRule : Type 0
FoundRule = Option LocalRule

-- what a command does to the court calendar. It enters a day or a span that must not be there already, or the days of a list that
-- are not there yet; these may move ends of any case. Or it enters a short day, which moves none, or withdraws a row
pub data CalendarWork : Type 0 where
  enters : NewRow → CalendarWork
  imports : List NewRow → CalendarWork
  shortens : ShortDay → CalendarWork
  withdraws : ℕ → CalendarWork

-- the state that a time must have for a command to act on it: it runs, it is neither done nor vacated, a motion suspends it, or it
-- awaits a more definite statement
pub data Wanted : Type 0 where
  a_running_time : Wanted
  an_open_time : Wanted
  a_suspended_time : Wanted
  an_awaiting_time : Wanted

-- what a command does to a deadline: the acts that it adds, and how the time has to stand
pub record DeadlineWork : Type 0 where
  pub deadline : ℕ
  pub wanted : Wanted
  pub acts : List Act

-- what the reply to a command shows about its case: the number of the party, the entry or the first deadline that it makes, or of
-- the deadline that it names. Or whether what was filed at an instant in a way was in time
pub data CaseReply : Type 0 where
  its_party : CaseReply
  its_entry : CaseReply
  its_first_deadline : CaseReply
  this_deadline : ℕ → CaseReply
  whether_in_time : ℕ → Way → CaseReply

-- what a command does in a case that is there, and what is replied
pub record CaseWork : Type 0 where
  pub reply : CaseReply
  pub case : ℕ
  -- the parties that it names, where it may name some
  pub parties : Option (List ℕ)
  -- the party or the entry that it adds
  pub added : Option AddParty
  pub filed : Option FileEntry
  -- the deadlines that it makes, by the local rule that it names, where that was entered
  pub deadlines : Option (FoundRule → List NewDeadline)
  pub by_rule : Option (List ℕ)
  -- the party whose time for a first answer it begins: it is served with a summons, or its waiver is filed
  pub served : Option ℕ
  pub acting : Option DeadlineWork
  -- the waiver, the motion, the ruling or the extension, for which there are further refusals
  pub waiver : Option FileWaiver
  pub motion : Option RuleMotion
  pub ruling : Option Dispose
  pub extension : Option Extend

-- a command does one of four things: this to the court calendar, it opens a case, it enters a local rule, or it does this in a case
pub data Work : Type 0 where
  on_calendar : CalendarWork → Work
  opens : OpenCase → Work
  enters_rule : LocalRule → Work
  in_case : CaseWork → Work

-- it does nothing in the case but what is added to this, and replies so
abbrev pub naming : ℕ → CaseReply → CaseWork
naming k reply = record {
  reply = reply;
  case = k;
  parties = None;
  added = None;
  filed = None;
  deadlines = None;
  by_rule = None;
  served = None;
  acting = None;
  waiver = None;
  motion = None;
  ruling = None;
  extension = None;
}

-- it makes deadlines of parties of the case
abbrev pub making : ℕ → List ℕ → List NewDeadline → CaseWork
making k parties made = record (naming k its_first_deadline) { parties = Some parties; deadlines = Some (λ found. made) }

-- it acts on a deadline of the case that stands so
abbrev pub acting : ℕ → ℕ → Wanted → List Act → CaseWork
acting k n wanted acts = record (naming k (this_deadline n)) { acting = Some (record { deadline = n; wanted = wanted; acts = acts }) }

-- a statement that the court orders is a new deadline
abbrev pub ruling_reply : Ruling → ℕ → CaseReply
ruling_reply Statement n = its_first_deadline
ruling_reply Denied n = this_deadline n
ruling_reply Postponed n = this_deadline n

-- the kinds of commands
abbrev pub work : Action → Work
work (action.DeclareDay a) = on_calendar (enters (day_row (day_kind_of a.kind) a.day a.name))
work (action.CloseDay a) = on_calendar (enters (day_row kind.Closed a.day a.name))
work (action.CloseSpan a) = on_calendar (enters (record { item = Span a.start a.end; name = [] }))
work (action.ShortDay a) = on_calendar (shortens a)
work (action.WithdrawCalendar a) = on_calendar (withdraws a.row)
work (action.ImportCalendar a) = on_calendar (imports (map imported a.rows))
work (action.OpenCase a) = opens a
work (action.AddParty a) = in_case (record (naming a.case its_party) { added = Some a })
work (action.FileEntry a) = in_case (record (naming a.case its_entry) { filed = Some a })
work (action.ServeSummons a) =
    in_case (record (making a.case (a.party ∷ []) (summons_time a ∷ [])) { served = Some a.party })
work (action.FileWaiver a) =
    in_case (record (making a.case (a.party ∷ []) (waiver_time a ∷ [])) { served = Some a.party; waiver = Some a })
work (action.ServePleading a) = in_case (making a.case (a.party ∷ []) (pleading_time a ∷ []))
work (action.OrderReply a) =
    in_case (making a.case (a.party ∷ []) (timed_or_set a.party ReplyToAnswer (method_of a.method) a.served a.due ∷ []))
work (action.RuleMotion a) =
    in_case (record (acting a.case a.deadline a_running_time (act.Motion a.served a.kind ∷ [])) { motion = Some a })
-- a more definite statement that the court orders is a deadline of the party that is named
work (action.Dispose a) =
    in_case
    (record (acting a.case a.deadline a_suspended_time (ruled a.outcome a.notice a.due ∷ [])) {
      reply = ruling_reply a.outcome a.deadline;
      parties = Some (option_to_list a.party);
      deadlines = Some (λ found. statement_ordered a.outcome a.party a.notice a.due);
      ruling = Some a;
    })
-- after service of the statement, with the three days that the method of service adds (12(a)(4)(B), 6(d))
work (action.StatementServed a) =
    in_case (acting a.case a.deadline an_awaiting_time (act.Resume a.served (adds_three AnswerAfterStatement (method_of a.method)) ∷ []))
work (action.NoticeHearing a) = in_case (making a.case (a.party ∷ a.opponent ∷ []) (hearing_times a))
work (action.OrderPeriod a) =
    in_case (making a.case (party_ordered a.party) (option_to_list (option_map (court_ordered a.party) (ordered a.unit a))))
-- every party's
work (action.EnterJudgment a) =
    in_case (record (making a.case [] (judgment_times a.entered a.discharged)) { parties = None })
work (action.Extend a) =
    in_case (record (acting a.case a.deadline a_running_time (extension a.days a.until)) { extension = Some a })
work (action.Satisfy a) =
    in_case (record (acting a.case a.deadline an_open_time (act.Done (pos a.at) a.way ∷ [])) { reply = whether_in_time a.at a.way })
work (action.Vacate a) = in_case (acting a.case a.deadline an_open_time (act.Vacated ∷ []))
work (action.LocalRule a) = enters_rule a
work (action.LocalPeriod a) =
    in_case
    (record (making a.case (a.party ∷ []) []) {
      by_rule = Some a.rule;
      deadlines = Some (λ found. option_to_list (option_map (local_time a) found));
    })

-- which of the four it does

abbrev pub calendar_in : Work → Option CalendarWork
calendar_in (on_calendar work) = Some work
calendar_in (opens case) = None
calendar_in (enters_rule rule) = None
calendar_in (in_case work) = None

abbrev pub calendar_work : Action → Option CalendarWork
calendar_work a = calendar_in (work a)

abbrev pub opened_in : Work → Option OpenCase
opened_in (on_calendar work) = None
opened_in (opens case) = Some case
opened_in (enters_rule rule) = None
opened_in (in_case work) = None

-- the case that it opens
abbrev pub opened : Action → Option OpenCase
opened a = opened_in (work a)

abbrev pub rule_in : Work → FoundRule
rule_in (on_calendar work) = None
rule_in (opens case) = None
rule_in (enters_rule rule) = Some rule
rule_in (in_case work) = None

-- the local rule that it enters
abbrev pub rule_entered : Action → FoundRule
rule_entered a = rule_in (work a)

abbrev pub case_in : Work → Option CaseWork
case_in (on_calendar work) = None
case_in (opens case) = None
case_in (enters_rule rule) = None
case_in (in_case work) = Some work

abbrev pub case_work : Action → Option CaseWork
case_work a = case_in (work a)

-- what it does in a case

-- the case that it names
abbrev pub case_named : Action → Option ℕ
case_named a = option_map (λ work. work.case) (case_work a)

-- the parties of the case that it names
abbrev pub parties_named : Action → List ℕ
parties_named a = option_map_or (λ work. unwrap_or work.parties []) (case_work a) []

-- the party that it adds to the case
abbrev pub party_entered : Action → Option AddParty
party_entered a = option_and_then (λ work. work.added) (case_work a)

-- the entry that it files in the case
abbrev pub entry_entered : Action → Option FileEntry
entry_entered a = option_and_then (λ work. work.filed) (case_work a)

abbrev pub made_by : FoundRule → CaseWork → List NewDeadline
made_by found work = option_map_or (λ make. make found) work.deadlines []

-- the deadlines that it makes, by the local rule that it names, where that was entered
abbrev pub deadlines_made : FoundRule → Action → List NewDeadline
deadlines_made found a = option_map_or (made_by found) (case_work a) []

abbrev pub deadline_work : Action → Option DeadlineWork
deadline_work a = option_and_then (λ work. work.acting) (case_work a)

-- the deadline that it names
abbrev pub deadline_named : Action → Option ℕ
deadline_named a = option_map (λ work. work.deadline) (deadline_work a)

-- the acts that it adds to that deadline
abbrev pub acts_made : Action → List Act
acts_made a = option_map_or (λ work. work.acts) (deadline_work a) []

-- the party whose time for a first answer it begins
abbrev pub party_served : Action → Option ℕ
party_served a = option_and_then (λ work. work.served) (case_work a)

-- the local rule by which it sets a time
abbrev pub rule_wanted : Action → Option (List ℕ)
rule_wanted a = option_and_then (λ work. work.by_rule) (case_work a)

abbrev pub rule_name_in : Work → Option (List ℕ)
rule_name_in (on_calendar work) = None
rule_name_in (opens case) = None
rule_name_in (enters_rule rule) = Some rule.name
rule_name_in (in_case work) = work.by_rule

-- the name of the local rule that it enters, or by which it sets a time
abbrev pub local_rule_named : Action → Option (List ℕ)
local_rule_named a = rule_name_in (work a)

-- how the deadline that it names has to stand
abbrev pub time_wanted : Action → Option Wanted
time_wanted a = option_map (λ work. work.wanted) (deadline_work a)

-- the waiver, the motion, the ruling or the extension

abbrev pub waiver_filed : Action → Option FileWaiver
waiver_filed a = option_and_then (λ work. work.waiver) (case_work a)

abbrev pub motion_made : Action → Option RuleMotion
motion_made a = option_and_then (λ work. work.motion) (case_work a)

abbrev pub ruling_made : Action → Option Dispose
ruling_made a = option_and_then (λ work. work.ruling) (case_work a)

abbrev pub extension_made : Action → Option Extend
extension_made a = option_and_then (λ work. work.extension) (case_work a)

-- what it does to the calendar

abbrev pub short_row : ShortDay → NewRow
short_row a = record { item = Short a.day a.close; name = a.name }

abbrev pub rows_of_work : CalendarWork → List NewRow
rows_of_work (enters row) = row ∷ []
rows_of_work (imports rows) = rows
rows_of_work (shortens a) = short_row a ∷ []
rows_of_work (withdraws number) = []

-- the calendar rows that it asks for
abbrev pub rows_asked : Action → List NewRow
rows_asked a = option_map_or rows_of_work (calendar_work a) []

abbrev pub entered_by : CalendarWork → Option NewRow
entered_by (enters row) = Some row
entered_by (imports rows) = None
entered_by (shortens a) = Some (short_row a)
entered_by (withdraws number) = None

-- the one row that it enters, if that must not be there already
abbrev pub row_entered : Action → Option NewRow
row_entered a = option_and_then entered_by (calendar_work a)

abbrev pub imported_by : CalendarWork → List NewRow
imported_by (enters row) = []
imported_by (imports rows) = rows
imported_by (shortens a) = []
imported_by (withdraws number) = []

-- the rows that it imports; those that are there already are not entered again
abbrev pub rows_imported : Action → List NewRow
rows_imported a = option_map_or imported_by (calendar_work a) []

abbrev pub withdrawn_by : CalendarWork → Option ℕ
withdrawn_by (enters row) = None
withdrawn_by (imports rows) = None
withdrawn_by (shortens a) = None
withdrawn_by (withdraws number) = Some number

-- the calendar row that it withdraws
abbrev pub row_withdrawn : Action → Option ℕ
row_withdrawn a = option_and_then withdrawn_by (calendar_work a)

-- it enters or withdraws rows of the calendar
abbrev pub changes_calendar : Action → Bool
changes_calendar a = is_some (calendar_work a)

abbrev pub may_move : CalendarWork → Bool
may_move (enters row) = true
may_move (imports rows) = true
may_move (shortens a) = false
may_move (withdraws number) = true

-- it enters or withdraws days or spans of the calendar, by which ends of any case may move; a short day moves none
abbrev pub moves_all_cases : Action → Bool
moves_all_cases a = option_map_or may_move (calendar_work a) false

-- what it asks about

abbrev pub may_enter : CalendarWork → Bool
may_enter (enters row) = true
may_enter (imports rows) = true
may_enter (shortens a) = true
may_enter (withdraws number) = false

-- the number of the next calendar row: it may add some
abbrev pub asks_next_row : Action → Bool
asks_next_row a = option_map_or may_enter (calendar_work a) false

-- a deadline is judged by the end of its time, or an end moves by what is made
abbrev pub is_timed : CaseWork → Bool
is_timed work = is_some work.acting || is_some work.deadlines

-- about the calendar: what it enters may be there already, or it is about a time of a case
abbrev pub asks_calendar : Action → Bool
asks_calendar a = asks_next_row a || option_map_or is_timed (case_work a) false

-- how many cases there are: it opens one, or may move ends of any
abbrev pub asks_cases : Action → Bool
asks_cases a = is_some (opened a) || moves_all_cases a

-- how many parties its case has: it adds one, or may name some
abbrev pub asks_parties : Action → Bool
asks_parties a = option_map_or (λ work. is_some work.added || is_some work.parties) (case_work a) false

-- how many entries its case has: it files one
abbrev pub asks_entries : Action → Bool
asks_entries a = option_map_or (λ work. is_some work.filed) (case_work a) false

-- how many deadlines its case has: it may make some
abbrev pub asks_deadlines : Action → Bool
asks_deadlines a = option_map_or (λ work. is_some work.deadlines) (case_work a) false

-- how many local rules there are: it enters one
abbrev pub asks_local_rules : Action → Bool
asks_local_rules a = is_some (rule_entered a)

-- about the local rule of the deadline that it names: it extends the time
abbrev pub asks_rule_of_deadline : Action → Bool
asks_rule_of_deadline a = is_some (extension_made a)

-- what it names and asks about, in one
abbrev pub subject_of : Action → Subject
subject_of a = record {
  case = case_named a;
  deadline = deadline_named a;
  changes_calendar = changes_calendar a;
  moves_all_cases = moves_all_cases a;
  asks = record {
    calendar = asks_calendar a;
    next_row = asks_next_row a;
    cases = asks_cases a;
    parties = asks_parties a;
    entries = asks_entries a;
    deadlines = asks_deadlines a;
    local_rules = asks_local_rules a;
  };
}
