-- The deadlines with the acts that a command adds, by its changes.
use Rattle.std.specs.Prelude.{◌≡◌, ℕ, ◌==◌, ◌&&◌, if◌then◌else◌, List, [], ◌∷◌, ◌++◌, unwrap_or, Option, Some, None, IfSome}
use Rattle.std.specs.Option.{option_map}
use Rattle.court_days.specs.Calendar.{Entered}
use Rattle.court_days.specs.Court.{CourtSettings}
use Rattle.court_rules.specs.declared.act.Act.{Act}
use Rattle.docket_command.specs.declared.command.Command.{Command}
use Rattle.docket_command.specs.declared.refusal.Reply.{Reply}
use Rattle.docket_decisions.specs.Outcomes.{IsHistory}
use Rattle.docket_decisions.specs.Tables.{rows_of, all_changed, with_receipt}
use Rattle.docket_decisions.proofs.AddedActs.{acts_added}
use Rattle.docket_history.specs.Histories.{History, acts_of_deadline}
use Rattle.docket_history.specs.Records.{calendar}
use Rattle.docket_history.specs.declared.row.ActRow.{ActRow}
use Rattle.docket_history.specs.declared.row.Change.{Change}
use Rattle.docket_history.specs.declared.row.Change.TheVariants.{AddDeadline}
use Rattle.docket_history.specs.declared.row.DeadlineRow.{DeadlineRow}
use Rattle.docket_history.specs.declared.view.DeadlineView.{DeadlineView}
use Rattle.docket_applying.specs.Sound.{IsSoundCase}
use Rattle.docket_applying.specs.declared.explaining.Grounds.{Grounds}
use Rattle.docket_questions.specs.Texts.{reasons_of}
use Rattle.docket_questions.specs.Foreseeing.{act_title}

-- the deadline of a number in a case, where the changes add it
abbrev pub deadline_added : ℕ → ℕ → List Change → Option DeadlineRow
deadline_added k n [] = None
deadline_added k n (AddDeadline row ∷ more) = if row.case == k && row.number == n then Some row else deadline_added k n more
deadline_added k n (other ∷ more) = deadline_added k n more

-- a deadline with these acts
abbrev pub deadline_with : List Act → DeadlineRow → DeadlineView
deadline_with acts row = record { party = row.party; rule = row.rule; initial = row.initial; acts = acts }

-- the deadline that was found
abbrev pub deadline_found : Option Grounds → Option DeadlineView
deadline_found found = option_map (λ grounds. grounds.deadline) found

-- the deadline of an act as it was found, or as it is added, with no act yet
abbrev pub deadline_before : Option DeadlineView → List Change → ActRow → Option DeadlineView
deadline_before (Some found) changes row = Some found
deadline_before None changes row = option_map (deadline_with []) (deadline_added row.case row.deadline changes)

-- with more acts
abbrev pub with_acts : List Act → DeadlineView → DeadlineView
with_acts more deadline = record deadline { acts = deadline.acts ++ more }

-- the deadline of an act with those acts that are on it
abbrev pub deadline_after : Option DeadlineView → List Change → List ActRow → ActRow → Option DeadlineView
deadline_after found changes rows row = option_map (with_acts (acts_of_deadline row.case row.deadline rows)) (deadline_before found changes row)

-- a history can show the deadline, if there is one
abbrev pub IsSoundIfAny : CourtSettings → Option DeadlineView → Type 0
IsSoundIfAny court found = IfSome found (λ deadline. IsSoundCase court (deadline ∷ []))

-- which deadline an act is on, and why it stands as it does by a calendar
abbrev pub told_after : CourtSettings → Entered → ActRow → Option DeadlineView → List ℕ
told_after court calendar row deadline = act_title row ++ unwrap_or (option_map (reasons_of court calendar) deadline) []

-- the command is accepted after the history and leaves the calendar as it is, with these changes and the acts among them
pub record Follows (court : CourtSettings) (h : History) (c : Command) (changes : List Change) (rows : List ActRow) : Type 0 where
  pub history : IsHistory court (c ∷ h)
  pub reply : Reply
  pub leads : with_receipt c reply (all_changed changes (rows_of court h)) ≡ rows_of court (c ∷ h)
  pub stays : calendar (c ∷ h) ≡ calendar h
  pub acts : rows ≡ acts_added changes

-- and this is the calendar
abbrev pub FollowsBy : CourtSettings → History → Command → Entered → List Change → List ActRow → Type 0
FollowsBy court h c entered changes rows = Follows court h c changes rows × (entered ≡ calendar h)
