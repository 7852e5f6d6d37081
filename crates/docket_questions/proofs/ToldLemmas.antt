-- What is told of the deadlines of a command's acts is what the docket would tell of them with the command.
use Rattle.std.proofs.Common.{◌≡◌, ◌∙◌, ◌++◌, ◌≤◌, ℕ, List, [], ◌∷◌, length, Option, Some, None, refl, sym, ap, ap₂, subst, arith}
use Rattle.std.proofs.lemmas.List.Elements.{All-nil, All-cons}
use Rattle.std.proofs.lemmas.List.{length-map}
use Rattle.std.specs.Prelude.{false, if◌then◌else◌}
use Rattle.std.specs.List.{flat_map}
use Rattle.court_days.specs.Calendar.{Entered}
use Rattle.court_days.specs.Court.{CourtSettings, zone_of}
use Rattle.court_rules.specs.Standings.{AreActs}
use Rattle.docket_command.specs.declared.command.Command.{Command}
use Rattle.docket_command.specs.declared.refusal.Reply.{Reply}
use Rattle.docket_history.specs.Actions.{changes_calendar}
use Rattle.docket_history.specs.CalendarItems.{calendar_of}
use Rattle.docket_history.specs.Histories.{History, deadlines, items_of, standing_rows}
use Rattle.docket_history.specs.Records.{calendar}
use Rattle.docket_history.specs.Views.{deadline_at}
use Rattle.docket_history.specs.declared.row.ActRow.{ActRow}
use Rattle.docket_history.specs.declared.row.CalendarRow.{CalendarRow}
use Rattle.docket_history.specs.declared.row.Change.{Change}
use Rattle.docket_history.specs.declared.view.DeadlineView.{DeadlineView}
use Rattle.docket_decisions.specs.Outcomes.{IsHistory, accepted, outcome}
use Rattle.docket_decisions.specs.Tables.{rows_of, all_changed, with_receipt}
use Rattle.docket_decisions.specs.declared.decision.Changes.{Changes}
use Rattle.docket_decisions.specs.declared.decision.Decision.{Decision}
use Rattle.docket_decisions.specs.declared.decision.Decision.TheVariants.{Change as Changed}
use Rattle.docket_decisions.proofs.AddedActs.{acts_added}
use Rattle.docket_decisions.proofs.LimitsKept.{within_limits}
use Rattle.docket_decisions.proofs.StillEnds.{calendar_kept}
use Rattle.docket_applying.specs.Applying.{IsAccepted, IsDecided}
use Rattle.docket_applying.specs.Grounds.{AreGrounds}
use Rattle.docket_applying.specs.Sound.{IsSoundCalendar}
use Rattle.docket_applying.specs.declared.explaining.Grounds.{Grounds}
use Rattle.docket_questions.specs.Foreseeing.{acts_foreseen, acts_with, deadline_told, foreseen_text}
use Rattle.docket_questions.specs.Moves.{calendar_foreseen}
use Rattle.docket_questions.specs.Prospects.{deadline_after, deadline_found, told_after, Follows, FollowsBy, IsSoundIfAny}
use Rattle.docket_questions.proofs.ForeseenLemmas.{acts_are_added, is_after, lawful_at}
use Rattle.docket_questions.proofs.ListLemmas.{added}

found_is : (h : History) (k n : ℕ) (found : Option Grounds) → AreGrounds h k n found → deadline_found found ≡ deadline_at (deadlines k h) n
found_is h k n None are = sym are
found_is h k n (Some grounds) are = sym are.0

-- the calendar of a docket is one that a court may enter
pub calendar_sound : (court : CourtSettings) (h : History) (rows : List CalendarRow) → IsHistory court h → rows ≡ standing_rows h → IsSoundCalendar (items_of rows)
calendar_sound court h rows is same =
    let within = within_limits court h is in
    subst (λ (all : List CalendarRow). IsSoundCalendar (items_of all)) (sym same)
    (within.items, omega (arith, length-map (standing_rows h) (λ (row : CalendarRow). row.item), within.rows))

module _ (court : CourtSettings) (h : History) (c : Command) (changes : List Change) (rows : List ActRow) (follows : Follows court h c changes rows) (row : ActRow) (found : Option Grounds)
    (are : AreGrounds h row.case row.deadline found) where
  after_is : deadline_after (deadline_found found) changes rows row ≡ deadline_at (deadlines row.case (c ∷ h)) row.deadline
  after_is =
      ap₂ (λ deadline acts. deadline_after deadline changes acts row) (found_is h row.case row.deadline found are) follows.acts
      ∙ sym (is_after court h c changes follows.reply follows.history.1 follows.leads row)

  lawful_if : (o : Option DeadlineView) → deadline_at (deadlines row.case (c ∷ h)) row.deadline ≡ o → IsSoundIfAny court o
  lawful_if None e = tt
  lawful_if (Some d) e =
      let Lawful : DeadlineView → Type 0 = λ x. AreActs (zone_of court) x.acts in
      record { few = omega arith; acts = All-cons Lawful d [] (lawful_at court (c ∷ h) row.case row.deadline d follows.history e) (All-nil Lawful) }

  module _ (now : CourtSettings) (same : now ≡ court) where
    -- the deadline has lawful acts
    pub after_sound : IsSoundIfAny now (deadline_after (deadline_found found) changes rows row)
    after_sound =
        subst (λ (by : CourtSettings). IsSoundIfAny by (deadline_after (deadline_found found) changes rows row)) (sym same)
        (subst (λ o. IsSoundIfAny court o) (sym after_is) (lawful_if _ refl))

    -- what is told of it behind a text
    pub told_is : (entered : Entered) (before told text : List ℕ) → entered ≡ calendar h → text ≡ before ++ told → told ≡ told_after now entered row (deadline_after (deadline_found found) changes rows row)
        → text ≡ before ++ deadline_told court (c ∷ h) row
    told_is entered before told text by more is =
        more
        ∙ ap (λ (line : List ℕ). before ++ line)
        (is
        ∙ ap (λ (settings : CourtSettings). told_after settings entered row (deadline_after (deadline_found found) changes rows row)) same
        ∙ ap₂ (λ entered deadline. told_after court entered row deadline) (by ∙ sym follows.stays) after_is)

-- with the court that the docket had before
pub follows_in : (h : History) (c : Command) (now was : CourtSettings) (changes : List Change) (rows : List ActRow) (entered : Entered) → now ≡ was → FollowsBy was h c entered changes rows → FollowsBy now h c entered changes rows
follows_in h c now was changes rows entered same follows = subst (λ court. FollowsBy court h c entered changes rows) (sym same) follows

-- where no act is added, and where some are
pub no_acts : (court : CourtSettings) (h : History) (rows : List ActRow) → length rows ≡ 0 → acts_foreseen court h [] ≡ acts_foreseen court h rows
no_acts court h [] none = refl
no_acts court h (row ∷ rows) none = absurd (cc)

pub some_acts : (court : CourtSettings) (h : History) (rows : List ActRow) → 1 ≤ length rows → flat_map (deadline_told court h) rows ≡ acts_foreseen court h rows
some_acts court h [] some = absurd (omega (arith, some))
some_acts court h (row ∷ rows) some = refl

-- an accepted command that leaves the calendar as it is
pub follows_by : (court : CourtSettings) (h : History) (c : Command) (changes : Changes) (all : List Change) (rows : List ActRow) → IsHistory court h → IsAccepted court h c changes → changes_calendar c.action ≡ false
    → all ≡ changes.rows.items → rows ≡ acts_added all → Follows court h c all rows
follows_by court h c changes all rows is judged calm same added = record {
  history = ((changes.reply, judged.0), is);
  reply = changes.reply;
  leads = ap (λ xs. with_receipt c changes.reply (all_changed xs (rows_of court h))) same ∙ judged.1;
  stays = ap calendar_of (calendar_kept h c calm);
  acts = added;
}

-- its text
pub text_is : (court : CourtSettings) (h : History) (c : Command) (changes : List Change) (rows : List ActRow) → Follows court h c changes rows → changes_calendar c.action ≡ false
    → foreseen_text court h c ≡ acts_foreseen court (c ∷ h) rows
text_is court h c changes rows follows calm =
    ap (λ b. if b then calendar_foreseen court h c else acts_foreseen court (c ∷ h) (acts_with h c)) calm
    ∙ ap (acts_foreseen court (c ∷ h)) (sym (follows.acts ∙ acts_are_added court h c changes follows.reply follows.history.1 follows.leads))

-- what is foreseen of it, by the court that the docket had before
pub accepted_in : (h : History) (c : Command) (now was : CourtSettings) (changes : Changes) (decision : Decision) (text : List ℕ) → now ≡ was → decision ≡ Changed changes → IsDecided now h c decision → text ≡ foreseen_text now h c
    → (reply : Reply) × (outcome was h c ≡ accepted reply) × (text ≡ foreseen_text was h c)
accepted_in h c now was changes decision text same is decided told =
    let judged : IsDecided now h c (Changed changes) = subst (IsDecided now h c) is decided in
    (changes.reply, sym (ap (λ (court : CourtSettings). outcome court h c) same) ∙ judged.0, told ∙ ap (λ (court : CourtSettings). foreseen_text court h c) same)
