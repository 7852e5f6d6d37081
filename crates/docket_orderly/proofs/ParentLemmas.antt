-- The parents of the rows that a command adds stand: the case of each party, entry and deadline, the deadline of each act.
use Rattle.std.proofs.Common.{◌≡◌, ◌⊎◌, inl, inr, ⊎_elim, ℕ, suc, ◌+◌, ◌<◌, ◌≤◌, Bool, true, false, ◌||◌, ◌&&◌, cond, Option, Some, None, List, [], ◌∷◌, ◌++◌, map, length, refl, sym, ◌∙◌, subst, arith, append_assoc}
use Rattle.std.specs.Prelude.{◌==◌, filter}
use Rattle.std.specs.List.{AllByRecursion, list_any}
use Rattle.std.proofs.lemmas.Bool.Decides.{nat_tests}
use Rattle.std.proofs.lemmas.Bool.{or_left, or_right}
use Rattle.std.proofs.lemmas.List.Folds.{list_any-append}
use Rattle.court_days.specs.Court.{CourtSettings}
use Rattle.court_rules.specs.declared.act.Act.{Act}
use Rattle.docket_command.specs.declared.command.Action.{Action}
use Rattle.docket_command.specs.declared.command.Action.TheVariants as action
use Rattle.docket_command.specs.declared.command.Command.{Command}
use Rattle.docket_history.specs.Actions.{FoundRule, case_named, deadlines_made, acts_made, row_withdrawn}
use Rattle.docket_history.specs.Histories.{History, case_number, deadline_number, case_rows, deadline_rows, deadlines_of_case, new_party, new_entry, deadline_rows_from, first_acts_from, act_rows_on}
use Rattle.docket_history.specs.declared.row.ActRow.{ActRow}
use Rattle.docket_history.specs.declared.row.CalendarRow.{CalendarRow}
use Rattle.docket_history.specs.declared.row.CaseRow.{CaseRow}
use Rattle.docket_history.specs.declared.row.Change.{Change}
use Rattle.docket_history.specs.declared.row.Change.TheVariants as change
use Rattle.docket_history.specs.declared.row.DeadlineRow.{DeadlineRow}
use Rattle.docket_history.specs.declared.row.LocalRuleRow.{LocalRuleRow}
use Rattle.docket_history.specs.declared.view.View.{View}
use Rattle.docket_decisions.specs.Outcomes.{IsHistory}
use Rattle.docket_decisions.specs.Tables.{Tables, rows_of, changed, all_changed, withdrawal, action_changes, calendar_changes, case_changes, party_changes, entry_changes, deadline_changes, first_act_changes, act_changes, local_rule_changes}
use Rattle.docket_history.specs.Views.{count_deadlines}
use Rattle.docket_history.proofs.Asked.{none_made}
use Rattle.docket_decisions.proofs.Leading.{seen}
use Rattle.docket_decisions.proofs.LimitsKept.{IsPassed, passed}
use Rattle.docket_orderly.specs.Additions.{HasCase, HasDeadline}
use Rattle.docket_orderly.specs.Orderly.{RunsFrom}
use Rattle.docket_orderly.proofs.ActionLemmas.{NewDeadline}
use Rattle.docket_orderly.proofs.ActLemmas.{deadline_there}
use Rattle.docket_orderly.proofs.DeadlineLemmas.{case_there}
use Rattle.docket_orderly.proofs.RowLemmas.{cases_run, deadlines_run}

-- the parents of a row stand
abbrev pub HasParents : Change → Tables → Type 0
HasParents (change.AddParty row) t = HasCase t row.case
HasParents (change.AddEntry row) t = HasCase t row.case
HasParents (change.AddDeadline row) t = HasCase t row.case
HasParents (change.AddAct row) t = HasDeadline t row.case row.deadline
HasParents _ t = Unit {0}

-- so do those of rows that are added one after another
abbrev pub AllHaveParents : List Change → Tables → Type 0
AllHaveParents [] t = Unit {0}
AllHaveParents (x ∷ xs) t = HasParents x t × AllHaveParents xs (changed x t)

-- what stands, stands with more
still_any : {X : Type 0} (p : X → Bool) (xs ys : List X) → list_any p xs ≡ true → list_any p (xs ++ ys) ≡ true
still_any p xs ys e = list_any-append p xs ys ∙ or_left (list_any p xs) (list_any p ys) e

any_last : {X : Type 0} (p : X → Bool) (xs : List X) (y : X) → p y ≡ true → list_any p (xs ++ y ∷ []) ≡ true
any_last p [] y e = or_left (p y) false e
any_last p (x ∷ xs) y e = or_right (p x) (list_any p (xs ++ y ∷ [])) (any_last p xs y e)

-- no change takes a case or a deadline away
case_kept : (x : Change) (t : Tables) (k : ℕ) → HasCase t k → HasCase (changed x t) k
case_kept (change.AddCase row) t k has = still_any (λ (r : CaseRow). r.number == k) t.cases (row ∷ []) has
case_kept (change.AddCalendar row) t k has = has
case_kept (change.RemoveCalendar number) t k has = has
case_kept (change.AddParty row) t k has = has
case_kept (change.AddEntry row) t k has = has
case_kept (change.AddDeadline row) t k has = has
case_kept (change.AddAct row) t k has = has
case_kept (change.AddLocalRule row) t k has = has

deadline_kept : (x : Change) (t : Tables) (k n : ℕ) → HasDeadline t k n → HasDeadline (changed x t) k n
deadline_kept (change.AddDeadline row) t k n has = still_any (λ (r : DeadlineRow). r.case == k && r.number == n) t.deadlines (row ∷ []) has
deadline_kept (change.AddCase row) t k n has = has
deadline_kept (change.AddCalendar row) t k n has = has
deadline_kept (change.RemoveCalendar number) t k n has = has
deadline_kept (change.AddParty row) t k n has = has
deadline_kept (change.AddEntry row) t k n has = has
deadline_kept (change.AddAct row) t k n has = has
deadline_kept (change.AddLocalRule row) t k n has = has

all_keep_deadline : (xs : List Change) (t : Tables) (k n : ℕ) → HasDeadline t k n → HasDeadline (all_changed xs t) k n
all_keep_deadline [] t k n has = has
all_keep_deadline (x ∷ xs) t k n has = all_keep_deadline xs (changed x t) k n (deadline_kept x t k n has)

-- changes one after another
parents_both : (xs ys : List Change) (t : Tables) → AllHaveParents xs t → AllHaveParents ys (all_changed xs t) → AllHaveParents (xs ++ ys) t
parents_both [] ys t one two = two
parents_both (x ∷ xs) ys t one two = (one.0, parents_both xs ys (changed x t) one.1 two)

-- what an action names stands: its case, where it names one; its deadline, where it adds acts to one
abbrev NamedStand : Action → Tables → Type 0
NamedStand a t = ((case_named a ≡ None) ⊎ HasCase t (case_number a)) × ((acts_made a ≡ []) ⊎ HasDeadline t (case_number a) (deadline_number a))

named_kept : (a : Action) (x : Change) (t : Tables) → NamedStand a t → NamedStand a (changed x t)
named_kept a x t named = (
  ⊎_elim (λ none. inl none) (λ has. inr (case_kept x t (case_number a) has)) named.0,
  ⊎_elim (λ none. inl none) (λ has. inr (deadline_kept x t (case_number a) (deadline_number a) has)) named.1,
)

all_keep_named : (a : Action) (xs : List Change) (t : Tables) → NamedStand a t → NamedStand a (all_changed xs t)
all_keep_named a [] t named = named
all_keep_named a (x ∷ xs) t named = all_keep_named a xs (changed x t) (named_kept a x t named)

-- changes that may be made wherever what the action names stands
abbrev Fit : Action → List Change → Type 0
Fit a xs = (t : Tables) → NamedStand a t → AllHaveParents xs t

fit_both : (a : Action) (xs ys : List Change) → Fit a xs → Fit a ys → Fit a (xs ++ ys)
fit_both a xs ys one two t named = parents_both xs ys t (one t named) (two (all_changed xs t) (all_keep_named a xs t named))

-- rows without parents
withdrawn_fit : (a : Action) (w : Option ℕ) → Fit a (withdrawal w)
withdrawn_fit a None t named = tt
withdrawn_fit a (Some number) t named = (tt, tt)

calendar_fit : (a : Action) (rows : List CalendarRow) → Fit a (map change.AddCalendar rows)
calendar_fit a [] t named = tt
calendar_fit a (row ∷ rows) t named = (tt, calendar_fit a rows (changed (change.AddCalendar row) t) (named_kept a (change.AddCalendar row) t named))

cases_fit : (a : Action) (rows : List CaseRow) → Fit a (map change.AddCase rows)
cases_fit a [] t named = tt
cases_fit a (row ∷ rows) t named = (tt, cases_fit a rows (changed (change.AddCase row) t) (named_kept a (change.AddCase row) t named))

rules_fit : (a : Action) (rows : List LocalRuleRow) → Fit a (map change.AddLocalRule rows)
rules_fit a [] t named = tt
rules_fit a (row ∷ rows) t named = (tt, rules_fit a rows (changed (change.AddLocalRule row) t) (named_kept a (change.AddLocalRule row) t named))

-- parties and entries of the case that is named
parties_fit : (m : ℕ) (a : Action) → Fit a (map change.AddParty (new_party m a))
parties_fit m (action.AddParty a) t named = ⊎_elim (λ none. absurd (cc)) (λ has. (has, tt)) named.0
parties_fit m _ t named = tt

entries_fit : (m : ℕ) (a : Action) → Fit a (map change.AddEntry (new_entry m a))
entries_fit m (action.FileEntry a) t named = ⊎_elim (λ none. absurd (cc)) (λ has. (has, tt)) named.0
entries_fit m _ t named = tt

-- deadlines of that case, and their first acts
deadlines_with : (k n : ℕ) (made : List NewDeadline) (t : Tables) → HasCase t k → AllHaveParents (map change.AddDeadline (deadline_rows_from k n made)) t
deadlines_with k n [] t has = tt
deadlines_with k n (d ∷ made) t has =
    let row : DeadlineRow = record { case = k; number = n; party = d.party; rule = d.rule; initial = d.initial } in
    (has, deadlines_with k (n + 1) made (changed (change.AddDeadline row) t) (case_kept (change.AddDeadline row) t k has))

same_tests : (k n : ℕ) → (k == k && n == n) ≡ true
same_tests k n = grind (arith, nat_tests)

-- each first act's deadline stands
abbrev AllStand : Tables → List ActRow → Type 0
AllStand t rows = AllByRecursion (λ (r : ActRow). HasDeadline t r.case r.deadline) rows

firsts_stand : (k n : ℕ) (made : List NewDeadline) (t : Tables) → AllStand (all_changed (map change.AddDeadline (deadline_rows_from k n made)) t) (first_acts_from k n made)
firsts_stand k n [] t = tt
firsts_stand k n (d ∷ made) t =
    let row : DeadlineRow = record { case = k; number = n; party = d.party; rule = d.rule; initial = d.initial } in
    let here : HasDeadline (changed (change.AddDeadline row) t) k n = any_last (λ (r : DeadlineRow). r.case == k && r.number == n) t.deadlines row (same_tests k n) in (
      all_keep_deadline (map change.AddDeadline (deadline_rows_from k (n + 1) made)) (changed (change.AddDeadline row) t) k n here,
      firsts_stand k (n + 1) made (changed (change.AddDeadline row) t),
    )

-- acts change no deadline
acts_with : (rows : List ActRow) (t : Tables) → AllStand t rows → AllHaveParents (map change.AddAct rows) t
acts_with [] t all = tt
acts_with (row ∷ rows) t all = (all.0, acts_with rows (changed (change.AddAct row) t) all.1)

-- new deadlines, then their first acts
made_fit : (a : Action) (found : FoundRule) (n : ℕ) (rest : List Change) → Fit a rest
    → Fit a (map change.AddDeadline (deadline_rows_from (case_number a) n (deadlines_made found a)) ++ (map change.AddAct (first_acts_from (case_number a) n (deadlines_made found a)) ++ rest))
made_fit a found n rest more t named =
    let k = case_number a in
    let made = deadlines_made found a in
    let ds : List Change = map change.AddDeadline (deadline_rows_from k n made) in
    let firsts : List Change = map change.AddAct (first_acts_from k n made) in
    parents_both ds (firsts ++ rest) t
    (⊎_elim
    (λ none. subst (λ (some : List NewDeadline). AllHaveParents (map change.AddDeadline (deadline_rows_from k n some)) t) (sym (none_made found a none)) tt)
    (λ has. deadlines_with k n made t has)
    named.0)
    (parents_both firsts rest (all_changed ds t) (acts_with (first_acts_from k n made) (all_changed ds t) (firsts_stand k n made t))
    (more (all_changed firsts (all_changed ds t)) (all_keep_named a firsts (all_changed ds t) (all_keep_named a ds t named))))

-- later acts, on the deadline that is named
later_stand : (k n m : ℕ) (acts : List Act) (t : Tables) → HasDeadline t k n → AllStand t (act_rows_on k n m acts)
later_stand k n m [] t has = tt
later_stand k n m (act ∷ acts) t has = (has, later_stand k n (m + 1) acts t has)

later_fit : (a : Action) (m : ℕ) → Fit a (map change.AddAct (act_rows_on (case_number a) (deadline_number a) m (acts_made a)))
later_fit a m t named =
    acts_with (act_rows_on (case_number a) (deadline_number a) m (acts_made a)) t
    (⊎_elim
    (λ none. subst (λ acts. AllStand t (act_rows_on (case_number a) (deadline_number a) m acts)) (sym none) tt)
    (λ has. later_stand (case_number a) (deadline_number a) m (acts_made a) t has)
    named.1)

-- all changes of an action, the withdrawal first
abbrev pub additions_of : View → Action → List Change
additions_of v a =
    calendar_changes v a
    ++ (case_changes v a
    ++ (party_changes v a
    ++ (entry_changes v a
    ++ (deadline_changes v a
    ++ (first_act_changes v a
    ++ (act_changes v a
    ++ local_rule_changes v a))))))

-- lists one after another, however they are joined
in_turn : (w a b c d e f g h : List Change) → w ++ a ++ b ++ c ++ d ++ e ++ f ++ g ++ h ≡ w ++ (a ++ (b ++ (c ++ (d ++ (e ++ (f ++ (g ++ h)))))))
in_turn w a b c d e f g h =
    append_assoc (w ++ a ++ b ++ c ++ d ++ e ++ f) g h
    ∙ append_assoc (w ++ a ++ b ++ c ++ d ++ e) f _
    ∙ append_assoc (w ++ a ++ b ++ c ++ d) e _
    ∙ append_assoc (w ++ a ++ b ++ c) d _
    ∙ append_assoc (w ++ a ++ b) c _
    ∙ append_assoc (w ++ a) b _
    ∙ append_assoc w a _

-- the changes of an action are its withdrawal and its additions
pub withdrawal_first : (v : View) (a : Action) → action_changes v a ≡ withdrawal (row_withdrawn a) ++ additions_of v a
withdrawal_first v a = in_turn (withdrawal (row_withdrawn a)) (calendar_changes v a) (case_changes v a) (party_changes v a) (entry_changes v a) (deadline_changes v a) (first_act_changes v a) (act_changes v a) (local_rule_changes v a)

-- each finds its parents
action_fit : (v : View) (a : Action) → Fit a (withdrawal (row_withdrawn a) ++ additions_of v a)
action_fit v a =
    fit_both a (withdrawal (row_withdrawn a)) _ (withdrawn_fit a (row_withdrawn a))
    (fit_both a (calendar_changes v a) _ (calendar_fit a _)
    (fit_both a (case_changes v a) _ (cases_fit a _)
    (fit_both a (party_changes v a) _ (parties_fit _ a)
    (fit_both a (entry_changes v a) _ (entries_fit _ a)
    (made_fit a v.local (count_deadlines v.case + 1) (act_changes v a ++ local_rule_changes v a)
    (fit_both a (act_changes v a) _ (later_fit a _) (rules_fit a _)))))))

-- a number within those that run is there
pub any_of_run : {X : Type 0} (number : X → ℕ) (n k : ℕ) (xs : List X) → RunsFrom n (map number xs) → n ≤ k → k < n + length xs → list_any (λ x. number x == k) xs ≡ true
any_of_run number n k [] runs low high = absurd (omega (arith, low, high))
any_of_run number n k (x ∷ xs) runs low high = at (number x == k) refl (λ past. any_of_run number (suc n) k xs runs.1 past (omega (arith, high)))
  where
    at : (b : Bool) → (number x == k) ≡ b → (suc n ≤ k → list_any (λ y. number y == k) xs ≡ true) → (b || list_any (λ y. number y == k) xs) ≡ true
    at true e more = refl
    at false e more = let first : number x ≡ n = runs.0 in more (grind (arith, nat_tests, e, first, low))

-- one that passes among those that are left passes both tests
pub any_filtered : {X : Type 0} (p q : X → Bool) (xs : List X) → list_any q (filter p xs) ≡ true → list_any (λ x. p x && q x) xs ≡ true
any_filtered p q [] e = e
any_filtered p q (x ∷ xs) e = at (p x) (any_filtered p q xs) e
  where
    or_kept : (a b c : Bool) → (b ≡ true → c ≡ true) → (a || b) ≡ true → (a || c) ≡ true
    or_kept true b c more f = refl
    or_kept false b c more f = more f

    at : (b : Bool) → (list_any q (filter p xs) ≡ true → list_any (λ y. p y && q y) xs ≡ true) → list_any q (cond b (x ∷ filter p xs) (filter p xs)) ≡ true
        → ((b && q x) || list_any (λ y. p y && q y) xs) ≡ true
    at true more f = or_kept (q x) (list_any q (filter p xs)) (list_any (λ y. p y && q y) xs) more f
    at false more f = more f

-- a case, or a deadline of a case, whose number is at most their count
case_stands : (court : CourtSettings) (h : History) (k : ℕ) → 1 ≤ k → k ≤ length (case_rows h) → HasCase (rows_of court h) k
case_stands court h k low high = any_of_run (λ (r : CaseRow). r.number) 1 k (case_rows h) (cases_run h) low (omega (arith, high))

pub deadline_stands : (court : CourtSettings) (h : History) (k n : ℕ) → 1 ≤ n → n ≤ length (deadlines_of_case k (deadline_rows h)) → HasDeadline (rows_of court h) k n
deadline_stands court h k n low high =
    any_filtered (λ (r : DeadlineRow). r.case == k) (λ (r : DeadlineRow). r.number == n) (deadline_rows h)
    (any_of_run (λ (r : DeadlineRow). r.number) 1 n (deadlines_of_case k (deadline_rows h)) (deadlines_run h k) low (omega (arith, high)))

-- what an action that is accepted names stands in the history before it
named_stand : (court : CourtSettings) (h : History) (a : Action) → IsPassed court h a → NamedStand a (rows_of court h)
named_stand court h a p = (
  ⊎_elim (λ none. inl none) (λ found. let range = case_there h a _ found in inr (case_stands court h (case_number a) range.0 range.1)) (seen h a p.case),
  by_acts (acts_made a) refl,
)
  where
    by_acts : (acts : List Act) → acts_made a ≡ acts → (acts_made a ≡ []) ⊎ HasDeadline (rows_of court h) (case_number a) (deadline_number a)
    by_acts [] e = inl e
    by_acts (act ∷ acts) e = let range = deadline_there court h a act acts p e in inr (deadline_stands court h (case_number a) (deadline_number a) range.0 range.1)

-- the changes of an accepted command, by any view of it, add rows whose parents stand
pub parents : (court : CourtSettings) (h : History) (c : Command) → IsHistory court (c ∷ h) → (v : View) → AllHaveParents (action_changes v c.action) (rows_of court h)
parents court h c is v =
    subst (λ (xs : List Change). AllHaveParents xs (rows_of court h)) (sym (withdrawal_first v c.action))
    (action_fit v c.action (rows_of court h) (named_stand court h c.action (passed court h c is.0.0 is.0.1)))
