-- What is done about the stored ends by what a history shows is right for the command after it.
use Rattle.std.proofs.Common.{◌≡◌, ◌∙◌, ◌||◌, inl, inr, ℕ, true, false, Option, Some, None, List, [], ◌∷◌, length, IsPermutation, refl, sym, ap, subst, append-nil}
use Rattle.std.specs.List.{flat_map}
use Rattle.std.specs.Prelude.{is_some, if◌then◌else◌, IfOk, Result, Ok, Err}
use Rattle.std.proofs.lemmas.List.{append_cancel_left}
use Rattle.std.proofs.lemmas.List.Sorted.{IsPermutation-refl}
use Rattle.court_days.specs.Court.{CourtSettings, zone_of}
use Rattle.court_rules.specs.declared.act.Act.{Act}
use Rattle.docket_command.specs.declared.command.Action.{Action}
use Rattle.docket_command.specs.declared.case_action.OpenCase.{OpenCase}
use Rattle.docket_command.specs.declared.command.Command.{Command}
use Rattle.docket_command.specs.declared.refusal.Reply.{Reply}
use Rattle.docket_history.specs.Actions.{asks_calendar, asks_cases, changes_calendar, if_asked, moves_all_cases, opened}
use Rattle.docket_history.specs.CalendarItems.{calendar_of}
use Rattle.docket_history.specs.Histories.{History, items_of, standing_rows, case_rows, act_rows}
use Rattle.docket_history.specs.Records.{calendar}
use Rattle.docket_history.specs.Views.{deadline_shown, acts_in}
use Rattle.docket_history.specs.declared.row.Change.{Change}
use Rattle.docket_history.specs.declared.view.View.{View}
use Rattle.docket_decisions.specs.Additions.{AddsOnce, AddsAmong, GetsAct}
use Rattle.docket_decisions.specs.Decisions.{UpdatesEndsBy, IsAnswer, IsUpdateAfter, IsUpdateBy, LeadsTo, MovesEnds}
use Rattle.docket_decisions.specs.EndMoves.{end_moves, moves_by_act}
use Rattle.docket_decisions.specs.EndRows.{all_changed_ends, end_rows}
use Rattle.docket_decisions.specs.Outcomes.{IsHistory, answer_of, shown}
use Rattle.docket_decisions.specs.Tables.{Tables, rows_of, all_changed, with_receipt}
use Rattle.docket_decisions.specs.declared.decision.Decision.{Decision}
use Rattle.docket_decisions.specs.declared.decision.Decision.TheVariants as decision
use Rattle.docket_decisions.specs.declared.decision.DecideFault.{DecideFault}
use Rattle.docket_decisions.specs.declared.end_row.EndChange.{EndChange}
use Rattle.docket_decisions.specs.declared.end_row.StoredEnd.{StoredEnd}
use Rattle.docket_decisions.specs.declared.moving.EndUpdate.{EndUpdate}
use Rattle.docket_decisions.specs.declared.moving.EndUpdate.TheVariants.{Moves, Calendar}
use Rattle.docket_decisions.proofs.AddedActs.{acts_added, acts_are}
use Rattle.docket_decisions.proofs.AddedEnds.{added_moves}
use Rattle.docket_decisions.proofs.MovedEnds.{Follows, moved_ends, moves_are, named_shown}
use Rattle.docket_decisions.proofs.StillEnds.{MakesNothing, nothing_or_asked, calendar_kept, acts_stay, ends_kept}

-- where ends of any case may move, the cases are counted
cases_counted : (a : Action) (n : ℕ) → moves_all_cases a ≡ true → if_asked (asks_cases a) n ≡ n
cases_counted a n e = at (opened a)
  where
    at : (o : Option OpenCase) → if_asked (is_some o || moves_all_cases a) n ≡ n
    at None = ap (λ asked. if_asked asked n) e
    at (Some case) = refl

module _ (court : CourtSettings) (h : History) (c : Command) (is : IsHistory court (c ∷ h)) (v : View) (seen : v ≡ shown court h c) (changes : List Change) (reply : Reply)
    (leads : with_receipt c reply (all_changed changes (rows_of court h)) ≡ rows_of court (c ∷ h)) where
  abbrev named : List Act
  named = acts_in (deadline_shown v)

  abbrev ends : List StoredEnd
  ends = end_rows court (rows_of court h)

  abbrev moves : List EndChange
  moves = end_moves (zone_of court) (calendar_of v.calendar) named changes

  abbrev AreRight : List EndChange → Type 0
  AreRight xs = IsPermutation (all_changed_ends xs ends) (end_rows court (rows_of court (c ∷ h))) × AddsOnce xs ends × AddsAmong (GetsAct changes) xs

  -- where the action makes nothing no end moves
  right_quietly : MakesNothing c.action → moves_all_cases c.action ≡ false → AreRight moves
  right_quietly makes calm =
      let none : acts_added changes ≡ [] =
      append_cancel_left (act_rows h) _ _ (sym (acts_are changes (rows_of court h)) ∙ ap (λ (t : Tables). t.acts) leads ∙ acts_stay h c makes ∙ sym (append-nil (act_rows h))) in
      let still : moves ≡ [] =
      moves_are (zone_of court) (calendar_of v.calendar) named changes ∙ ap (flat_map (moves_by_act (zone_of court) (calendar_of v.calendar) named)) none in
      subst AreRight (sym still) (subst (IsPermutation ends) (ends_kept court h c makes calm) (IsPermutation-refl ends), tt, tt)

  -- else they move by the acts that it makes, by a calendar that stays
  right_by_acts : asks_calendar c.action ≡ true → changes_calendar c.action ≡ false → AreRight moves
  right_by_acts asked calm =
      let stands : calendar_of v.calendar ≡ calendar h =
      ap (λ (w : View). calendar_of w.calendar) seen ∙ ap (λ b. calendar_of (if b then items_of (standing_rows h) else [])) asked in
      let follows : Follows court (calendar_of v.calendar) named changes h c = record {
        history = is;
        stands = stands;
        stays = stands ∙ ap calendar_of (sym (calendar_kept h c calm));
        named = ap (λ (w : View). acts_in (deadline_shown w)) seen ∙ named_shown court h c is;
        reply = reply;
        leads = leads;
      } in
      let added = added_moves court (calendar_of v.calendar) named changes h c follows in
      (moved_ends court (calendar_of v.calendar) named changes h c follows, added.0, added.1)

  update_right : (update : EndUpdate) → IsUpdateBy court v c.action changes update → IsUpdateAfter court h c changes update
  update_right (Moves them) by =
      subst AreRight (sym by.1)
      (elim (nothing_or_asked c.action by.0) [ inl makes ↦ right_quietly makes by.0 | inr it ↦ right_by_acts it.0 it.1 ])
  update_right (Calendar cases) by = (by.0, by.1 ∙ ap (λ (w : View). w.cases) seen ∙ cases_counted c.action (length (case_rows h)) by.0)

pub ends_moved : (court : CourtSettings) (h : History) (c : Command) (v : View) (r : Result Decision DecideFault) → IsHistory court h → v ≡ shown court h c → IsAnswer r (answer_of court v c)
    → IfOk r (LeadsTo court h c) → IfOk r (UpdatesEndsBy court v c.action) → IfOk r (MovesEnds court h c)
ends_moved court h c v (Err fault) is seen answer leads updates = tt
ends_moved court h c v (Ok (decision.Repeat reply)) is seen answer leads updates = tt
ends_moved court h c v (Ok (decision.Change changes)) is seen answer leads updates =
    let history : IsHistory court (c ∷ h) = ((changes.reply, ap (λ w. answer_of court w c) (sym seen) ∙ answer), is) in
    update_right court h c history v seen changes.rows.items changes.reply leads changes.ends updates
