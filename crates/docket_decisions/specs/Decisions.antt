-- What `decide` promises.
use Rattle.std.specs.Prelude.{◌≡◌, ◌≤◌, ◌<◌, ◌^◌, true, false, List, ◌∷◌, length, IfSome, IsPermutation, Result, Ok, Err}
use Rattle.std.specs.List.{All}
use Rattle.court_days.specs.Court.{CourtSettings, zone_of}
use Rattle.court_rules.specs.LocalRules.{is_local_rule}
use Rattle.court_rules.specs.Standings.{AreActs, StandsAfter}
use Rattle.court_rules.specs.declared.local_rule.LocalRule.{LocalRule}
use Rattle.docket_command.specs.declared.command.Action.{Action}
use Rattle.docket_command.specs.declared.command.Command.{Command}
use Rattle.docket_history.specs.Actions.{deadlines_made, moves_all_cases, subject_of}
use Rattle.docket_history.specs.CalendarItems.{IsEnteredItem, calendar_of}
use Rattle.docket_history.specs.Histories.{History, case_rows}
use Rattle.docket_history.specs.Times.{standing_shown}
use Rattle.docket_history.specs.Views.{acts_in, deadline_shown}
use Rattle.docket_decisions.specs.Additions.{AddsOnce, AddsAmong, GetsAct}
use Rattle.docket_decisions.specs.EndMoves.{end_moves}
use Rattle.docket_decisions.specs.EndRows.{end_rows, all_changed_ends}
use Rattle.docket_decisions.specs.Outcomes.{Answer, repeated, refused, accepted}
use Rattle.docket_decisions.specs.Refusals.{count_added, is_over}
use Rattle.docket_decisions.specs.Tables.{rows_of, all_changed, with_receipt}
use Rattle.docket_decisions.specs.declared.moving.EndUpdate.{EndUpdate}
use Rattle.docket_decisions.specs.declared.moving.EndUpdate.TheVariants.{Moves, Calendar}
use Rattle.docket_decisions.specs.declared.refusals.Circumstances.{Circumstances}
use Rattle.docket_history.specs.declared.row.Change.{Change}
use Rattle.docket_decisions.specs.declared.decision.Decision.{Decision}
use Rattle.docket_decisions.specs.declared.decision.Decision.TheVariants as decision
use Rattle.docket_decisions.specs.declared.decision.DecideFault.{DecideFault}
use Rattle.docket_decisions.specs.declared.decision.DecideFault.TheVariants.{Refused, NoMemory}
use Rattle.docket_history.specs.declared.view.DeadlineView.{DeadlineView}
use Rattle.docket_history.specs.declared.view.Kept.TheVariants.{Same}
use Rattle.docket_history.specs.declared.view.View.{View}
use Rattle.court_days.specs.Limits.{most_rows}

-- a view that a history can show: its calendar holds what a court may enter, at most 4,000 rows, rows have numbers up to
-- 4,294,967,295; the acts of the deadline that the command names are lawful, and where its time is not over there is room for one
-- act more; and the local rule that it asks about is one that a court may have
pub record IsSoundView (court : CourtSettings) (v : View) : Type 0 where
  pub items : All IsEnteredItem v.calendar
  pub rows : length v.calendar ≤ most_rows
  pub next_row : v.next_row ≤ 2 ^ 32
  pub acts : IfSome (deadline_shown v) (λ (d : DeadlineView). AreActs (zone_of court) d.acts)
  pub room : is_over (standing_shown court v) ≡ false → length (acts_in (deadline_shown v)) < 100
  pub local : IfSome v.local (λ (rule : LocalRule). is_local_rule rule ≡ true)

-- what an action is judged by beside its view
pub record AreCircumstances (circumstances : Circumstances) (v : View) (a : Action) : Type 0 where
  pub calendar : circumstances.calendar.now ≡ calendar_of v.calendar
  pub standing : circumstances.standing ≡ standing_shown circumstances.court.now v
  pub near : StandsAfter 100 circumstances.standing
  pub subject : circumstances.subject ≡ subject_of a
  pub added : circumstances.added ≡ count_added v a
  pub made : circumstances.made ≡ length (deadlines_made v.local a)

-- the decision is this answer, unless memory ran out
abbrev pub IsAnswer : Result Decision DecideFault → Answer → Type 0
IsAnswer (Ok (decision.Repeat reply)) answer = answer ≡ repeated reply
IsAnswer (Ok (decision.Change changes)) answer = answer ≡ accepted changes.reply
IsAnswer (Err (Refused r)) answer = answer ≡ refused r
IsAnswer (Err NoMemory) answer = Unit {0}

-- a repeat has the reply that is kept under the command's key
abbrev pub IsKeptReply : View → Decision → Type 0
IsKeptReply v (decision.Repeat reply) = v.under_key ≡ Same reply
IsKeptReply v (decision.Change changes) = Unit {0}

-- the changes are these, if there are any
abbrev pub IsChange : List Change → Decision → Type 0
IsChange all (decision.Repeat reply) = Unit {0}
IsChange all (decision.Change changes) = changes.rows.items ≡ all

abbrev pub IsNoMemory : DecideFault → Type 0
IsNoMemory (Refused r) = ⊥
IsNoMemory NoMemory = Unit {0}

-- the changes and the receipt lead from the tables of a history to those with the command
abbrev pub LeadsTo : CourtSettings → History → Command → Decision → Type 0
LeadsTo court h c (decision.Repeat reply) = Unit {0}
LeadsTo court h c (decision.Change changes) =
    with_receipt c changes.reply (all_changed changes.rows.items (rows_of court h)) ≡ rows_of court (c ∷ h)

-- what is done about the stored ends with an action, by the view: the acts among the changes move the ends of their deadlines by the
-- calendar that is shown; where the action may move ends of all cases, those of the cases that are shown are brought up to date
abbrev pub IsUpdateBy : CourtSettings → View → Action → List Change → EndUpdate → Type 0
IsUpdateBy court v a changes (Moves moves) =
    (moves_all_cases a ≡ false) × (moves.items ≡ end_moves (zone_of court) (calendar_of v.calendar) (acts_in (deadline_shown v)) changes)
IsUpdateBy court v a changes (Calendar cases) = (moves_all_cases a ≡ true) × (cases ≡ v.cases)

abbrev pub UpdatesEndsBy : CourtSettings → View → Action → Decision → Type 0
UpdatesEndsBy court v a (decision.Repeat reply) = Unit {0}
UpdatesEndsBy court v a (decision.Change changes) = IsUpdateBy court v a changes.rows.items changes.ends

-- what is done about the stored ends with a command after a history: the changes lead from the ends before it to those with it, add no
-- row beside one of its deadline, and each to a deadline that gets an act; or the command may move ends of all cases, and those of
-- all that there are are brought up to date
abbrev pub IsUpdateAfter : CourtSettings → History → Command → List Change → EndUpdate → Type 0
IsUpdateAfter court h c changes (Moves moves) =
    IsPermutation (all_changed_ends moves.items (end_rows court (rows_of court h))) (end_rows court (rows_of court (c ∷ h)))
    × AddsOnce moves.items (end_rows court (rows_of court h))
    × AddsAmong (GetsAct changes) moves.items
IsUpdateAfter court h c changes (Calendar cases) = (moves_all_cases c.action ≡ true) × (cases ≡ length (case_rows h))

abbrev pub MovesEnds : CourtSettings → History → Command → Decision → Type 0
MovesEnds court h c (decision.Repeat reply) = Unit {0}
MovesEnds court h c (decision.Change changes) = IsUpdateAfter court h c changes.rows.items changes.ends
