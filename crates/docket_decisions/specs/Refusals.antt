-- When each refusal applies to a command, by what the docket shows about it.
use Rattle.std.specs.Prelude.{ℕ, ◌+◌, Bool, true, false, not, ◌&&◌, ◌||◌, if◌then◌else◌, List, [], ◌∷◌, length, nat_le, nat_lt, Option, Some, None, is_some, is_none}
use Rattle.std.specs.List.{list_any}
use Rattle.std.specs.Option.{option_map_or}
use Rattle.court_days.specs.Court.{CourtSettings, zone_of}
use Rattle.court_days.specs.Ends.{end_of_days}
use Rattle.court_days.specs.declared.calendar.Direction.TheVariants.{Forward}
use Rattle.court_days.specs.declared.filing.Way.TheVariants.{Electronic}
use Rattle.court_rules.specs.declared.act.Act.{Act}
use Rattle.court_rules.specs.declared.act.Act.TheVariants as act
use Rattle.court_rules.specs.declared.act.MotionKind.TheVariants.{E}
use Rattle.court_rules.specs.declared.act.Standing.{Standing}
use Rattle.court_rules.specs.declared.act.Standing.TheVariants.{Running, Suspended, Awaiting, Done, Vacated}
use Rattle.court_rules.specs.declared.deadline_rule.DeadlineRule.{DeadlineRule}
use Rattle.court_rules.specs.declared.deadline_rule.DeadlineRule.TheVariants.{Listed, Local}
use Rattle.court_rules.specs.Rules.{is_responsive, is_extendable}
use Rattle.court_rules.specs.Standings.{last_day}
use Rattle.docket_command.specs.declared.choice.Ruling.{Ruling}
use Rattle.docket_command.specs.declared.choice.Ruling.TheVariants.{Statement}
use Rattle.docket_command.specs.declared.command.Command.{Command}
use Rattle.docket_command.specs.declared.command.Action.{Action}
use Rattle.docket_command.specs.declared.motion_action.Dispose.{Dispose}
use Rattle.docket_command.specs.declared.service_action.FileWaiver.{FileWaiver}
use Rattle.docket_command.specs.declared.time_action.Extend.{Extend}
use Rattle.docket_command.specs.declared.field.Field.{Field}
use Rattle.docket_command.specs.declared.refusal.Refusal.{Refusal}
use Rattle.docket_command.specs.declared.refusal.Refusal.TheVariants as refusal
use Rattle.docket_history.specs.Actions.{FoundRule, CalendarWork, enters, imports, shortens, withdraws, CaseWork, Work, on_calendar, opens, enters_rule, in_case, Wanted, a_running_time, an_open_time, a_suspended_time, an_awaiting_time, may_enter, rows_of_work, made_by, work, rule_wanted, time_wanted, waiver_filed, motion_made, ruling_made, extension_made, case_named, parties_named, deadline_named, row_withdrawn}
use Rattle.docket_history.specs.CalendarItems.{fresh, stands_among, calendar_of}
use Rattle.docket_history.specs.Histories.{rows_added}
use Rattle.docket_history.specs.Times.{standing_shown, is_in_time}
use Rattle.docket_values.specs.Values.{is_word, first_bad, bad_values}
use Rattle.docket_history.specs.Views.{parties_in, entries_in, count_deadlines, deadline_shown, acts_in, last_act, served_in}
use Rattle.docket_history.specs.declared.item.CalendarItem.{CalendarItem}
use Rattle.docket_history.specs.declared.item.CalendarItem.TheVariants.{Short}
use Rattle.docket_history.specs.declared.view.DeadlineView.{DeadlineView}
use Rattle.docket_history.specs.declared.view.Kept.{Kept}
use Rattle.docket_history.specs.declared.view.Kept.TheVariants.{Other}
use Rattle.docket_history.specs.declared.view.View.{View}
use Rattle.court_days.specs.Limits.{most_rows}

-- the key has a receipt for another command
abbrev pub is_reused : Kept → Bool
is_reused Other = true
is_reused _ = false

-- no case has the number that is named
abbrev pub lacks_case : View → Action → Bool
lacks_case v a = is_some (case_named a) && is_none v.case

-- the case has no party of that number
abbrev pub is_no_party : View → ℕ → Bool
is_no_party v party = nat_lt party 1 || nat_lt (parties_in v.case) party

-- the case has no such party as is named
abbrev pub lacks_party : View → Action → Bool
lacks_party v a = list_any (is_no_party v) (parties_named a)

-- the case has no such deadline as is named
abbrev pub lacks_deadline : View → Action → Bool
lacks_deadline v a = is_some (deadline_named a) && is_none (deadline_shown v)

-- the calendar row that is to be withdrawn is not there
abbrev pub lacks_row : View → Action → Bool
lacks_row v a = is_some (row_withdrawn a) && not v.row_stands

-- the local rule by which a time is to be set was not entered
abbrev pub lacks_local_rule : View → Action → Bool
lacks_local_rule v a = is_some (rule_wanted a) && is_none v.local

-- the day is entered under that kind, the span is entered, or the day is short; of imported days those that are there are skipped
abbrev pub stands_already : List CalendarItem → CalendarWork → Bool
stands_already standing (enters row) = stands_among standing row.item
stands_already standing (imports rows) = false
stands_already standing (shortens a) = stands_among standing (Short a.day a.close)
stands_already standing (withdraws number) = false

abbrev pub exists_by : View → Work → Bool
exists_by v (on_calendar work) = stands_already v.calendar work
exists_by v (opens case) = v.label_taken
exists_by v (enters_rule rule) = is_some v.local
exists_by v (in_case work) = false

-- what is to be entered is there: the row of the calendar, or the label of the case or the name of the local rule is in use
abbrev pub exists_already : View → Action → Bool
exists_already v a = exists_by v (work a)

-- the time runs
abbrev pub is_running : Standing → Bool
is_running (Running end) = true
is_running _ = false

-- a motion suspends it
abbrev pub is_suspended : Standing → Bool
is_suspended Suspended = true
is_suspended _ = false

-- it awaits a more definite statement
abbrev pub is_awaiting : Standing → Bool
is_awaiting Awaiting = true
is_awaiting _ = false

-- the deadline is done or vacated
abbrev pub is_over : Standing → Bool
is_over Done = true
is_over Vacated = true
is_over _ = false

-- a time that has to run, as for a motion or an extension, doesn't; or one that is to be done or vacated is over
abbrev pub fails_open : Standing → Wanted → Bool
fails_open standing a_running_time = not (is_running standing)
fails_open standing an_open_time = is_over standing
fails_open standing a_suspended_time = false
fails_open standing an_awaiting_time = false

abbrev pub is_not_open : CourtSettings → View → Action → Bool
is_not_open court v a = option_map_or (fails_open (standing_shown court v)) (time_wanted a) false

-- a time on whose motion the court rules is not suspended; or one for which a statement is served awaits none
abbrev pub fails_awaiting : Standing → Wanted → Bool
fails_awaiting standing a_running_time = false
fails_awaiting standing an_open_time = false
fails_awaiting standing a_suspended_time = not (is_suspended standing)
fails_awaiting standing an_awaiting_time = not (is_awaiting standing)

abbrev pub is_not_awaiting : CourtSettings → View → Action → Bool
is_not_awaiting court v a = option_map_or (fails_awaiting (standing_shown court v)) (time_wanted a) false

-- a local rule sets no time of a responsive pleading
abbrev pub is_responsive_rule : DeadlineRule → Bool
is_responsive_rule (Listed rule) = is_responsive rule
is_responsive_rule (Local name) = false

-- the rule of the deadline does
abbrev pub is_responsive_in : Option DeadlineView → Bool
is_responsive_in None = false
is_responsive_in (Some deadline) = is_responsive_rule deadline.rule

-- a rule 12 motion suspends the time of a responsive pleading alone (Fed. R. Civ. P. 12(a)(4))
abbrev pub is_not_responsive : View → Action → Bool
is_not_responsive v a = is_some (motion_made a) && not (is_responsive_in (deadline_shown v))

-- the last act is a motion for a more definite statement
abbrev pub is_by_e : Option Act → Bool
is_by_e (Some (act.Motion served E)) = true
is_by_e _ = false

-- the court orders a more definite statement on a motion for one (12(e)); the last act of a time that is suspended is the
-- motion that suspends it
abbrev pub wants_statement : Ruling → Bool
wants_statement Statement = true
wants_statement _ = false

abbrev pub is_wrong_ruling : View → Dispose → Bool
is_wrong_ruling v a = wants_statement a.outcome && not (is_by_e (last_act (acts_in (deadline_shown v))))

abbrev pub is_wrong_motion : View → Action → Bool
is_wrong_motion v a = option_map_or (is_wrong_ruling v) (ruling_made a) false

-- the last day of a time that runs is before the day
abbrev pub is_after_last_day : CourtSettings → Standing → ℕ → Bool
is_after_last_day court (Running end) day = nat_lt (last_day (zone_of court) end) day
is_after_last_day court _ day = false

-- the motion was served after the last day
abbrev pub is_late_motion : CourtSettings → View → Action → Bool
is_late_motion court v a = option_map_or (λ motion. is_after_last_day court (standing_shown court v) motion.served) (motion_made a) false

-- the party that is served, or whose waiver is filed, has an initial deadline that is not vacated
abbrev pub is_served : View → Bool
is_served v = served_in v.case

-- a request for a waiver allows at least 30 days after it was sent, or at least 60 outside any judicial district (4(d)(1)(F))
abbrev pub least_allowed : Bool → ℕ
least_allowed false = 30
least_allowed true = 60

abbrev pub is_short_waiver : Action → Bool
is_short_waiver a = option_map_or (λ waiver. nat_lt waiver.allowed (least_allowed waiver.abroad)) (waiver_filed a) false

-- the waiver came back after the time allowed, which is counted by the rules of a period (4(d)(3))
abbrev pub came_late : View → FileWaiver → Bool
came_late v a = nat_lt (end_of_days (calendar_of v.calendar) Forward a.sent a.allowed) a.returned

abbrev pub is_late_waiver : View → Action → Bool
is_late_waiver v a = option_map_or (came_late v) (waiver_filed a) false

-- a time by a local rule may be extended where that rule allows it
abbrev pub is_extendable_by : FoundRule → DeadlineRule → Bool
is_extendable_by found (Listed rule) = is_extendable rule
is_extendable_by None (Local name) = false
is_extendable_by (Some rule) (Local name) = rule.extendable

abbrev pub is_extendable_in : FoundRule → Option DeadlineView → Bool
is_extendable_in found None = false
is_extendable_in found (Some deadline) = is_extendable_by found deadline.rule

-- the times after judgment may not be extended (6(b)(2))
abbrev pub may_not_extend : View → Action → Bool
may_not_extend v a = is_some (extension_made a) && not (is_extendable_in v.local (deadline_shown v))

-- an extension is to come before the time expires, as the court acts or the request is made, or there was excusable neglect (6(b)(1))
abbrev pub comes_late : CourtSettings → View → Extend → Bool
comes_late court v a =
    not a.neglect && not (is_in_time court (calendar_of v.calendar) (standing_shown court v) a.at Electronic)

abbrev pub is_expired : CourtSettings → View → Action → Bool
is_expired court v a = option_map_or (comes_late court v) (extension_made a) false

-- an extension to a day goes past the last day
abbrev pub reaches : CourtSettings → Standing → Option ℕ → Bool
reaches court standing None = true
reaches court standing (Some day) = is_after_last_day court standing day

abbrev pub is_not_later : CourtSettings → View → Action → Bool
is_not_later court v a =
    option_map_or (λ extension. not (reaches court (standing_shown court v) extension.until)) (extension_made a) false

-- how many calendar rows the action would add
abbrev pub count_added : View → Action → ℕ
count_added v a = length (rows_added v.calendar a)

-- the calendar would have more than 4,000 rows, or a row's number would pass 4,294,967,295
abbrev pub is_calendar_full : View → ℕ → Bool
is_calendar_full v added = nat_lt most_rows (length v.calendar + added) || nat_lt 4_294_967_296 (v.next_row + added)

-- a deadline has room for the act that ends it: 99 acts are the most before that
abbrev pub has_too_many_acts : View → Action → Bool
has_too_many_acts v a = is_some (deadline_named a) && nat_le 99 (length (acts_in (deadline_shown v)))

-- the deadline that is named has no room for one act more, or the case none for the deadlines that are made
abbrev pub has_no_room : View → Action → CaseWork → Bool
has_no_room v a work = has_too_many_acts v a || nat_lt 1000 (count_deadlines v.case + length (made_by v.local work))

-- the act ends the deadline, for which there always is room
abbrev pub is_ending : Wanted → Bool
is_ending a_running_time = false
is_ending an_open_time = true
is_ending a_suspended_time = false
is_ending an_awaiting_time = false

-- a case has no room for what is to be entered in it
abbrev pub is_case_full : View → Action → CaseWork → Bool
is_case_full v a work =
    if is_some work.deadlines then has_no_room v a work
    else if is_some work.added then nat_le 1000 (parties_in v.case)
    else if is_some work.filed then nat_le 10_000 (entries_in v.case)
    else if option_map_or is_ending (time_wanted a) false then false
    else has_no_room v a work

abbrev pub is_full_by : View → Action → Work → Bool
is_full_by v a (on_calendar work) = may_enter work && is_calendar_full v (length (fresh v.calendar (rows_of_work work)))
is_full_by v a (opens case) = nat_le 100_000 v.cases
is_full_by v a (enters_rule rule) = nat_le 1000 v.local_rules
is_full_by v a (in_case work) = is_case_full v a work

-- a limit would be passed: 100,000 cases; 1,000 local rules; 1,000 parties, 10,000 entries and 1,000 deadlines a case; 100 acts a deadline
abbrev pub is_full : View → Action → Bool
is_full v a = is_full_by v a (work a)

-- a refusal where its sentence is true
abbrev pub on : Bool → Refusal → Option Refusal
on applies r = if applies then Some r else None

abbrev pub on_value : Option Field → Option Refusal
on_value None = None
on_value (Some f) = Some (refusal.BadValue f)

abbrev pub first_some : List (Option Refusal) → Option Refusal
first_some [] = None
first_some (Some r ∷ rs) = Some r
first_some (None ∷ rs) = first_some rs

-- the refusals that look at the docket, in their order
abbrev pub state_refusals : CourtSettings → View → Action → List (Option Refusal)
state_refusals court v a =
    on (lacks_case v a) refusal.NoSuchCase
    ∷ on (lacks_party v a) refusal.NoSuchParty
    ∷ on (lacks_deadline v a) refusal.NoSuchDeadline
    ∷ on (lacks_row v a) refusal.NoSuchCalendarRow
    ∷ on (lacks_local_rule v a) refusal.NoSuchLocalRule
    ∷ on (exists_already v a) refusal.Exists
    ∷ on (is_not_open court v a) refusal.NotOpen
    ∷ on (is_not_awaiting court v a) refusal.NotAwaiting
    ∷ on (is_not_responsive v a) refusal.NotResponsive
    ∷ on (is_wrong_motion v a) refusal.WrongMotion
    ∷ on (is_late_motion court v a) refusal.AfterDeadline
    ∷ on (is_served v) refusal.AlreadyServed
    ∷ on (is_short_waiver a) refusal.ShortWaiver
    ∷ on (is_late_waiver v a) refusal.LateWaiver
    ∷ on (may_not_extend v a) refusal.MayNotExtend
    ∷ on (is_expired court v a) refusal.Expired
    ∷ on (is_not_later court v a) refusal.NotLater
    ∷ on (is_full v a) refusal.Full
    ∷ []

-- all refusals in their order, each where its sentence is true
abbrev pub refusals : CourtSettings → View → Command → List (Option Refusal)
refusals court v c =
    on (not (is_word 64 c.key)) refusal.BadKey
    ∷ on (is_reused v.under_key) refusal.KeyReused
    ∷ on_value (first_bad (bad_values court c.action))
    ∷ state_refusals court v c.action

-- the first refusal that applies
abbrev pub refusal_of : CourtSettings → View → Command → Option Refusal
refusal_of court v c = first_some (refusals court v c)
