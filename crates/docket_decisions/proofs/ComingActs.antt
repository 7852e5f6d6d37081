-- Where no refusal applies the acts that an action adds are lawful, each with those of its deadline before it.
use Rattle.std.proofs.Common.{◌≡◌, ◌<◌, ◌⊎◌, inl, inr, ℕ, ◌+◌, false, List, [], ◌∷◌, ◌++◌, map, length, Option, Some, None, refl, sym, ◌∙◌, subst, arith}
use Rattle.std.specs.List.{All, AllByRecursion}
use Rattle.std.specs.Prelude.{◌&&◌, is_none, is_some, IfSome}
use Rattle.std.proofs.lemmas.List.Elements.{All-nil, All-cons, All-append}
use Rattle.civil_time.specs.Zone.{ZoneRules}
use Rattle.court_days.specs.Court.{CourtSettings, zone_of}
use Rattle.court_rules.proofs.Chains.{next}
use Rattle.court_rules.specs.Standings.{AreActs}
use Rattle.court_rules.specs.declared.act.Act.{Act}
use Rattle.docket_command.specs.declared.command.Action.{Action}
use Rattle.docket_command.specs.declared.command.Command.{Command}
use Rattle.docket_history.specs.Actions.{deadline_named, deadlines_made, acts_made}
use Rattle.docket_history.specs.CalendarItems.{calendar_of}
use Rattle.docket_history.specs.Histories.{numbered, rows_added, new_case, new_party, new_entry, new_deadlines, new_local_rule, act_rows_on, first_acts, first_acts_from, later_acts, case_number, deadline_number}
use Rattle.docket_history.specs.Times.{standing_shown}
use Rattle.docket_history.specs.Views.{parties_in, entries_in, count_deadlines, deadline_shown, acts_in}
use Rattle.docket_history.specs.declared.row.ActRow.{ActRow}
use Rattle.docket_history.specs.declared.row.Change.{Change}
use Rattle.docket_history.specs.declared.row.Change.TheVariants.{AddCalendar, RemoveCalendar, AddCase, AddParty, AddEntry, AddDeadline, AddAct, AddLocalRule}
use Rattle.docket_history.specs.declared.row.NewDeadline.{NewDeadline}
use Rattle.docket_history.specs.declared.view.DeadlineView.{DeadlineView}
use Rattle.docket_history.specs.declared.view.View.{View}
use Rattle.docket_history.specs.Actions.{row_withdrawn}
use Rattle.docket_decisions.specs.Decisions.{IsSoundView}
use Rattle.docket_decisions.specs.EndMoves.{acts_with, MayCome, AreLawful}
use Rattle.docket_decisions.specs.Tables.{withdrawal, calendar_changes, case_changes, party_changes, entry_changes, deadline_changes, first_act_changes, act_changes, local_rule_changes, action_changes}
use Rattle.docket_decisions.proofs.ActsKept.{first_sound}
use Rattle.docket_decisions.proofs.AddedActs.{named_before}
use Rattle.docket_decisions.proofs.FirstActs.{AreFirst, made_first}
use Rattle.docket_decisions.proofs.LaterActs.{IsNext, IsNextOf, may_follow}
use Rattle.docket_history.proofs.Asked.{none_acted}
use Rattle.docket_decisions.proofs.Passed.{IsFree}

module _ (zone : ZoneRules) where
  abbrev IsLawful : DeadlineView → Type 0
  IsLawful d = AreActs zone d.acts

  lawful_if : (o : Option DeadlineView) → IfSome o IsLawful → (acts_in o ≡ []) ⊎ AreActs zone (acts_in o)
  lawful_if None lawful = inl refl
  lawful_if (Some d) lawful = inr lawful

  lawful_there : (o : Option DeadlineView) → is_none o ≡ false → IfSome o IsLawful → AreActs zone (acts_in o)
  lawful_there None there lawful = absurd (let no = there in cc)
  lawful_there (Some d) there lawful = lawful

  -- the changes that rows are
  module _ (named : List Act) where
    abbrev Comes : Change → Type 0
    Comes change = MayCome zone named change

    abbrev IsComing : ActRow → Type 0
    IsComing row = AreActs zone (acts_with named row)

    withdrawn : (w : Option ℕ) → All Comes (withdrawal w)
    withdrawn None = All-nil Comes
    withdrawn (Some number) = All-cons Comes (RemoveCalendar number) [] tt (All-nil Comes)

    -- rows that are no acts
    no_acts : {R : Type 0} (make : R → Change) → ((row : R) → Comes (make row)) → (rows : List R) → All Comes (map make rows)
    no_acts make each [] = All-nil Comes
    no_acts make each (row ∷ rows) = All-cons Comes (make row) (map make rows) (each row) (no_acts make each rows)

    -- and rows of acts
    acts_come : (rows : List ActRow) → AllByRecursion IsComing rows → All Comes (map AddAct rows)
    acts_come [] all = All-nil Comes
    acts_come (row ∷ rows) all = All-cons Comes (AddAct row) (map AddAct rows) all.0 (acts_come rows all.1)

    firsts_come : (k m : ℕ) (made : List NewDeadline) → AreFirst zone made → AllByRecursion IsComing (first_acts_from k m made)
    firsts_come k m [] all = tt
    firsts_come k m (d ∷ made) all = ((first_sound zone d.first all.0).lawful, firsts_come k (m + 1) made all.1)

module _ (court : CourtSettings) (v : View) (c : Command) (sound : IsSoundView court v) (free : IsFree court v c) where
  abbrev a : Action
  a = c.action

  abbrev zone : ZoneRules
  zone = zone_of court

  abbrev named : List Act
  named = acts_in (deadline_shown v)

  -- an act comes on a deadline that is there
  lawful_named : (new : Act) → acts_made a ≡ new ∷ [] → (o : Option ℕ) → deadline_named a ≡ o → AreActs zone named
  lawful_named new made None none = absurd (let no : [] ≡ new ∷ [] = sym (none_acted a none) ∙ made in cc)
  lawful_named new made (Some n) is =
      lawful_there zone (deadline_shown v) (subst (λ o. is_some o && is_none (deadline_shown v) ≡ false) is free.deadline) sound.acts

  -- which has room for it
  short : (new : Act) → IsNext zone (standing_shown court v) named new → length named < 100
  short new is = elim is.room [ inl ends ↦ sound.room ends.1 | inr few ↦ omega (arith, few) ]

  later_come : (news : List Act) → acts_made a ≡ news → IsNextOf zone (standing_shown court v) named news
      → AllByRecursion (IsComing zone named) (act_rows_on (case_number a) (deadline_number a) (length named + 1) news)
  later_come [] made is = tt
  later_come (new ∷ []) made is = (
    subst (λ before. AreActs zone (before ++ new ∷ [])) (sym (named_before named (case_number a) (deadline_number a) new))
        (next zone (calendar_of v.calendar) named new (lawful_named new made (deadline_named a) refl) (short new is) is.within is.begins is.may),
    tt,
  )
  later_come (new ∷ other ∷ more) made is = absurd is

  -- its changes are lawful
  pub changes_lawful : AreLawful zone named (action_changes v a)
  changes_lawful =
      let firsts = firsts_come zone named (case_number a) (count_deadlines v.case + 1) (deadlines_made v.local a) (made_first court v.local a sound.local free.values) in
      let laters = later_come (acts_made a) refl (may_follow court v a free.values free.opened free.awaited free.room) in
      let Come : Change → Type 0 = Comes zone named in record {
        named = lawful_if zone (deadline_shown v) sound.acts;
        after =
            All-append Come _ (local_rule_changes v a)
            (All-append Come _ (act_changes v a)
            (All-append Come _ (first_act_changes v a)
            (All-append Come _ (deadline_changes v a)
            (All-append Come _ (entry_changes v a)
            (All-append Come _ (party_changes v a)
            (All-append Come _ (case_changes v a)
            (All-append Come (withdrawal (row_withdrawn a)) (calendar_changes v a) (withdrawn zone named (row_withdrawn a))
            (no_acts zone named AddCalendar (λ row. tt) (numbered v.next_row (rows_added v.calendar a))))
            (no_acts zone named AddCase (λ row. tt) (new_case v.cases a)))
            (no_acts zone named AddParty (λ row. tt) (new_party (parties_in v.case) a)))
            (no_acts zone named AddEntry (λ row. tt) (new_entry (entries_in v.case) a)))
            (no_acts zone named AddDeadline (λ row. tt) (new_deadlines v.local (count_deadlines v.case) a)))
            (acts_come zone named (first_acts v.local (count_deadlines v.case) a) firsts))
            (acts_come zone named (later_acts (length named) a) laters))
            (no_acts zone named AddLocalRule (λ row. tt) (new_local_rule v.local_rules a));
      }
