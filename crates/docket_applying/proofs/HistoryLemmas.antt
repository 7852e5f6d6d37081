-- What is done about the stored ends with an accepted command is right for the write of it.
use Rattle.std.proofs.Common.{◌≡◌, ◌∙◌, inl, true, List, [], ◌∷◌, length, sym, ap, ap₂, subst}
use Rattle.std.specs.List.{AllByRecursion}
use Rattle.court_days.specs.Court.{CourtSettings, zone_of}
use Rattle.docket_command.specs.declared.command.Command.{Command}
use Rattle.docket_command.specs.declared.refusal.Reply.{Reply}
use Rattle.docket_history.specs.Actions.{moves_all_cases}
use Rattle.docket_history.specs.Histories.{History, case_rows, deadline_rows, deadlines_of_case, act_rows, deadlines_from}
use Rattle.docket_history.specs.declared.row.Change.{Change}
use Rattle.docket_decisions.specs.Additions.{GetsAct}
use Rattle.docket_decisions.specs.Decisions.{IsUpdateAfter}
use Rattle.docket_decisions.specs.EndRows.{calendar_in, end_rows, ends_running, end_rows_from}
use Rattle.docket_decisions.specs.Outcomes.{IsHistory}
use Rattle.docket_decisions.specs.Tables.{Tables, rows_of, all_changed, with_receipt}
use Rattle.docket_decisions.specs.declared.moving.EndUpdate.{EndUpdate}
use Rattle.docket_decisions.specs.declared.moving.EndUpdate.TheVariants.{Moves, Calendar}
use Rattle.docket_decisions.proofs.AddedEnds.{among_more}
use Rattle.docket_decisions.proofs.StillEnds.{MakesNothing, makes_nothing, deadlines_stay, acts_stay}
use Rattle.docket_wire.specs.Valid.{IsCommand}
use Rattle.docket_orderly.specs.Additions.{HasDeadline}
use Rattle.docket_orderly.specs.Orderly.{IsCourtSettings, IsOrderly}
use Rattle.docket_orderly.proofs.DocketLemmas.{orderly}
use Rattle.docket_orderly.proofs.DeadlineLemmas.{IsElsewhere, deadlines_kept, no_deadlines}
use Rattle.docket_tables.specs.Contents.{ends_in_case}
use Rattle.docket_tables.proofs.StoredLemmas.{ends_of_all}
use Rattle.docket_applying.specs.Settling.{IsSettling, IsUpdate}
use Rattle.docket_applying.specs.Writing.{MayAddEnds}
use Rattle.docket_applying.proofs.DocketLemmas.{gets_deadline}
use Rattle.docket_applying.proofs.RunningLemmas.{none_by_another}

-- a command that changes the days or spans of the calendar moves the ends of the cases that there are
pub settling : (court : CourtSettings) (h : History) (c : Command) → IsCourtSettings court → IsHistory court (c ∷ h) → AllByRecursion IsCommand (c ∷ h)
    → moves_all_cases c.action ≡ true → IsSettling court (length (case_rows h)) (rows_of court h) (rows_of court (c ∷ h))
settling court h c settings is all changes = record {
  orderly = now;
  next_orderly = then;
  untouched = λ j out.
      let none = no_deadlines court h is.1 j out in
      let off : IsElsewhere j c.action = inl nothing in
      ends_of_all court t j now
      ∙ ap (λ ds. end_rows_from j 1 (ends_running (zone_of court) (calendar_in t) (deadlines_from j 1 (act_rows h) ds))) none
      ∙ sym (ap (λ ds. end_rows_from j 1 (ends_running (zone_of court) (calendar_in next) (deadlines_from j 1 (act_rows (c ∷ h)) ds))) (deadlines_kept h c j off ∙ none))
      ∙ sym (ends_of_all court next j then);
  none_begins = λ k none entered.
      let before : ends_in_case court (calendar_in t) t k ≡ [] = sym (ends_of_all court t k now) ∙ none in
      ap₂ (λ acts ds. end_rows_from k 1 (ends_running (zone_of court) entered (deadlines_from k 1 acts (deadlines_of_case k ds)))) (acts_stay h c nothing) (deadlines_stay h c nothing)
      ∙ none_by_another (zone_of court) (calendar_in t) entered k 1 (deadlines_from k 1 (act_rows h) (deadlines_of_case k (deadline_rows h))) before;
}
  where
    nothing : MakesNothing c.action
    nothing = makes_nothing c.action changes

    t : Tables
    t = rows_of court h

    next : Tables
    next = rows_of court (c ∷ h)

    now : IsOrderly court (rows_of court h)
    now = orderly court h settings is.1 all.1

    then : IsOrderly court (rows_of court (c ∷ h))
    then = orderly court (c ∷ h) settings is all

-- what is done about the ends leads to those with the command
pub update_right : (court : CourtSettings) (h : History) (c : Command) (changes : List Change) (update : EndUpdate) → IsCourtSettings court → IsHistory court (c ∷ h) → AllByRecursion IsCommand (c ∷ h)
    → IsUpdateAfter court h c changes update → IsUpdate court update (rows_of court h) (rows_of court (c ∷ h))
update_right court h c changes (Moves moves) settings is all after = after.0
update_right court h c changes (Calendar cases) settings is all after =
    subst (λ n. IsSettling court n (rows_of court h) (rows_of court (c ∷ h))) (sym after.1) (settling court h c settings is all after.0)

-- and may be stored
pub update_added : (court : CourtSettings) (h : History) (c : Command) (reply : Reply) (changes : List Change) (update : EndUpdate) → IsHistory court (c ∷ h)
    → with_receipt c reply (all_changed changes (rows_of court h)) ≡ rows_of court (c ∷ h) → IsUpdateAfter court h c changes update
    → MayAddEnds update (rows_of court (c ∷ h)) (end_rows court (rows_of court h))
update_added court h c reply changes (Moves moves) is leads after =
    (after.1, among_more (GetsAct changes) (HasDeadline (rows_of court (c ∷ h))) (gets_deadline court h c reply changes is leads) moves.items after.2)
update_added court h c reply changes (Calendar cases) is leads after = tt
