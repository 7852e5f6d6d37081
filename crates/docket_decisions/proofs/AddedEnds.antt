-- A row of an end is added only where its deadline has none.
use Rattle.std.proofs.Common.{◌≡◌, ◌≤◌, ◌<◌, ◌∙◌, inl, inr, ℕ, ◌+◌, ◌==◌, ◌&&◌, not, Bool, true, false, cond, List, [], ◌∷◌, ◌++◌, map, filter, length, Option, Some, None, refl, sym, ap, subst, arith, append-nil}
use Rattle.std.specs.List.{AllByRecursion, flat_map}
use Rattle.std.proofs.lemmas.Bool.Decides.{nat_tests}
use Rattle.std.proofs.lemmas.Grind.{flat_map-append}
use Rattle.civil_time.specs.Zone.{ZoneRules}
use Rattle.court_days.specs.Calendar.{Entered}
use Rattle.court_days.specs.Court.{CourtSettings, zone_of}
use Rattle.court_rules.specs.Standings.{standing}
use Rattle.court_rules.specs.declared.act.Act.{Act}
use Rattle.docket_command.specs.declared.command.Command.{Command}
use Rattle.docket_history.specs.Actions.{deadlines_made, acts_made}
use Rattle.docket_decisions.specs.Additions.{AddsOnce, AddsAmong, GetsAct}
use Rattle.docket_decisions.specs.EndMoves.{acts_before, acts_with, moves_by_act, end_moves}
use Rattle.docket_decisions.specs.EndRows.{end_row, row_of_deadline, end_rows, end_running, is_of, moved_end, changed_ends, all_changed_ends, IsElsewhere, AreRowsFrom, is_same_end, end_changes, first_end, after_first, changes_from}
use Rattle.docket_history.specs.Histories.{History, deadline_rows, act_rows, deadlines_of_case, acts_of_deadline, first_acts_from, case_number, deadline_number, rule_found}
use Rattle.docket_decisions.specs.Outcomes.{IsHistory}
use Rattle.docket_decisions.specs.Tables.{rows_of}
use Rattle.docket_history.specs.declared.row.NewDeadline.{NewDeadline}
use Rattle.docket_decisions.specs.declared.end_row.EndChange.{EndChange}
use Rattle.docket_decisions.specs.declared.end_row.EndChange.TheVariants.{Add, Remove, Move}
use Rattle.docket_decisions.specs.declared.end_row.StoredEnd.{StoredEnd}
use Rattle.docket_decisions.specs.declared.end_row.EndTime.{EndTime}
use Rattle.docket_history.specs.declared.row.ActRow.{ActRow}
use Rattle.docket_history.specs.declared.row.Change.{Change}
use Rattle.docket_history.specs.declared.row.Change.TheVariants.{AddCalendar, RemoveCalendar, AddCase, AddParty, AddEntry, AddDeadline, AddAct, AddLocalRule}
use Rattle.docket_history.specs.declared.row.DeadlineRow.{DeadlineRow}
use Rattle.docket_decisions.proofs.AddedActs.{turned, is_earlier, named_before}
use Rattle.docket_decisions.proofs.EndChanges.{before, later, split, after_are, are_not}
use Rattle.docket_decisions.proofs.MovedEnds.{Follows, end, rows, row_off, first_ends, first_off, firsts_added, moves_are, one_made, there_where_acted, firsts_made, later_made, none_yet, made_rows, rows_made}
use Rattle.docket_decisions.proofs.OneDeadline.{AreOthers, is_deadline}
use Rattle.docket_decisions.proofs.ListLemmas.{all_both}

-- rows of a deadline, where other rows change

module _ (k n : ℕ) where
  -- rows that go leave none
  none_left : (p : StoredEnd → Bool) (rows : List StoredEnd) → AreOthers k n rows → AreOthers k n (filter p rows)
  none_left p [] all = tt
  none_left p (row ∷ rows) all =
      elim (p row) as (λ b. AreOthers k n (cond b (row ∷ filter p rows) (filter p rows))) [ true ↦ (all.0, none_left p rows all.1) | false ↦ none_left p rows all.1 ]

  -- nor does an end that moves make one
  none_moved : (to : StoredEnd) (rows : List StoredEnd) → AreOthers k n rows → AreOthers k n (map (moved_end to) rows)
  none_moved to [] all = tt
  none_moved to (row ∷ rows) all =
      (elim (is_of to.case to.deadline row) as (λ b. is_of k n (cond b (record row { end = to.end }) row) ≡ false) [ true ↦ all.0 | false ↦ all.0 ], none_moved to rows all.1)

  -- what is done about another deadline gives this one no row
  still_none : (j m : ℕ) (first next : Option EndTime) (rows : List StoredEnd) → (j == k && m == n) ≡ false → AreOthers k n rows → AreOthers k n (all_changed_ends (end_changes j m first next) rows)
  still_none j m None None rows off all = all
  still_none j m None (Some e) rows off all = all_both (λ row. is_of k n row ≡ false) rows (record { case = j; deadline = m; end = e } ∷ []) all (off, tt)
  still_none j m (Some stored) None rows off all = none_left (λ row. not (is_of j m row)) rows all
  still_none j m (Some stored) (Some e) rows off all =
      elim (is_same_end stored e) as (λ b. AreOthers k n (all_changed_ends (cond b [] (Move (record { case = j; deadline = m; end = e }) ∷ [])) rows)) [
        | true ↦ all
        | false ↦ none_moved (record { case = j; deadline = m; end = e }) rows all
      ]

  -- it adds the row of this one only where there is none
  once_at : (stored next : Option EndTime) (rows : List StoredEnd) → (stored ≡ None → AreOthers k n rows) → AddsOnce (end_changes k n stored next) rows
  once_at None None rows none = tt
  once_at None (Some e) rows none = (none refl, tt)
  once_at (Some stored) None rows none = tt
  once_at (Some stored) (Some e) rows none =
      elim (is_same_end stored e) as (λ b. AddsOnce (cond b [] (Move (record { case = k; deadline = n; end = e }) ∷ [])) rows) [ true ↦ tt | false ↦ tt ]

  -- and no other
  among_at : (P : ℕ → ℕ → Type 0) (stored next : Option EndTime) → P k n → AddsAmong P (end_changes k n stored next)
  among_at P None None stands = tt
  among_at P None (Some e) stands = (stands, tt)
  among_at P (Some stored) None stands = tt
  among_at P (Some stored) (Some e) stands =
      elim (is_same_end stored e) as (λ b. AddsAmong P (cond b [] (Move (record { case = k; deadline = n; end = e }) ∷ []))) [ true ↦ tt | false ↦ tt ]

-- changes after others

-- the later ones add to the rows that the earlier ones leave
once_both : (xs ys : List EndChange) (rows : List StoredEnd) → AddsOnce xs rows → AddsOnce ys (all_changed_ends xs rows) → AddsOnce (xs ++ ys) rows
once_both [] ys rows a b = b
once_both (Add row ∷ xs) ys rows a b = (a.0, once_both xs ys (changed_ends (Add row) rows) a.1 b)
once_both (Remove j m ∷ xs) ys rows a b = once_both xs ys (changed_ends (Remove j m) rows) a b
once_both (Move to ∷ xs) ys rows a b = once_both xs ys (changed_ends (Move to) rows) a b

-- each row of both is of such a deadline
among_both : (P : ℕ → ℕ → Type 0) (xs ys : List EndChange) → AddsAmong P xs → AddsAmong P ys → AddsAmong P (xs ++ ys)
among_both P [] ys a b = b
among_both P (Add row ∷ xs) ys a b = (a.0, among_both P xs ys a.1 b)
among_both P (Remove j m ∷ xs) ys a b = among_both P xs ys a b
among_both P (Move to ∷ xs) ys a b = among_both P xs ys a b

-- among more deadlines
pub among_more : (P Q : ℕ → ℕ → Type 0) → ((k n : ℕ) → P k n → Q k n) → (xs : List EndChange) → AddsAmong P xs → AddsAmong Q xs
among_more P Q wider [] a = tt
among_more P Q wider (Add row ∷ xs) a = (wider row.case row.deadline a.0, among_more P Q wider xs a.1)
among_more P Q wider (Remove j m ∷ xs) a = among_more P Q wider xs a
among_more P Q wider (Move to ∷ xs) a = among_more P Q wider xs a

-- the changes of a case, deadline by deadline

-- removals add none
once_swept : (stored rows : List StoredEnd) → AddsOnce (map (λ row. Remove row.case row.deadline) stored) rows
once_swept [] rows = tt
once_swept (row ∷ stored) rows = once_swept stored (changed_ends (Remove row.case row.deadline) rows)

-- of any deadlines
among_swept : (P : ℕ → ℕ → Type 0) (stored : List StoredEnd) → AddsAmong P (map (λ row. Remove row.case row.deadline) stored)
among_swept P [] = tt
among_swept P (row ∷ stored) = among_swept P stored

module _ (k : ℕ) where
  -- a deadline from n on that has no row among those stored of the case has none at all
  abbrev Covers : ℕ → List StoredEnd → List StoredEnd → Type 0
  Covers n stored rows = (m : ℕ) → n ≤ m → AreOthers k m stored → AreOthers k m rows

  -- where the row of deadline n does not come first, there is none
  none_first : (n : ℕ) (stored : List StoredEnd) → AreRowsFrom k n stored → first_end n stored ≡ None → AreOthers k n stored
  none_first n stored are none =
      elim (split k n stored are) [
        | inl it ↦ later k n (n + 1) stored (omega arith) it.2
        | inr it ↦ absurd (let no : None ≡ Some it.0.end = sym none ∙ it.3 in cc)
      ]

  -- the row of deadline n is of no later one
  none_later : (n m : ℕ) (stored : List StoredEnd) → AreRowsFrom k n stored → n < m → AreOthers k m (after_first n stored) → AreOthers k m stored
  none_later n m stored are low none =
      elim (split k n stored are) [
        | inl it ↦ subst (AreOthers k m) it.1 none
        | inr it ↦ subst (AreOthers k m) (sym it.2) (before k m it.0 (omega (arith, low, it.6)), subst (AreOthers k m) it.4 none)
      ]

  -- by these changes no row is added beside one of its deadline
  once_from : (n : ℕ) (ends : List (Option EndTime)) (stored rows : List StoredEnd) → AreRowsFrom k n stored → Covers n stored rows → AddsOnce (changes_from k n ends stored) rows
  once_from n [] stored rows are covers = once_swept stored rows
  once_from n (next ∷ ends) stored rows are covers =
      let first = first_end n stored in
      let changes = end_changes k n first next in
      once_both changes (changes_from k (n + 1) ends (after_first n stored)) rows (once_at k n first next rows (λ none. covers n (omega arith) (none_first n stored are none)))
      (once_from (n + 1) ends (after_first n stored) (all_changed_ends changes rows) (after_are k n stored are)
      (λ m high none.
      still_none k m k n first next rows (turned k m k n (is_earlier k n k m (inr (omega (arith, high))))) (covers m (omega (arith, high)) (none_later n m stored are (omega (arith, high)) none))))

  -- deadline m of case j is one of the case's, which are so many
  abbrev IsAmong : ℕ → ℕ → ℕ → Type 0
  IsAmong many j m = (j ≡ k) × (1 ≤ m) × (m ≤ many)

  -- each row that they add is of one
  among_from : (many n : ℕ) (ends : List (Option EndTime)) (stored : List StoredEnd) → 1 ≤ n → n + length ends ≤ many + 1 → AddsAmong (IsAmong many) (changes_from k n ends stored)
  among_from many n [] stored low high = among_swept (IsAmong many) stored
  among_from many n (next ∷ ends) stored low high =
      among_both (IsAmong many) (end_changes k n (first_end n stored) next) (changes_from k (n + 1) ends (after_first n stored))
      (among_at k n (IsAmong many) (first_end n stored) next (refl, low, omega (arith, high)))
      (among_from many (n + 1) ends (after_first n stored) (omega arith) (omega (arith, high)))

  -- both, with rows of other cases before those of the case
  pub added_beside : (many : ℕ) (ends : List (Option EndTime)) (stored others : List StoredEnd) → length ends ≡ many → AreRowsFrom k 1 stored → AllByRecursion (IsElsewhere k 1) others
      → AddsOnce (changes_from k 1 ends stored) (others ++ stored) × AddsAmong (IsAmong many) (changes_from k 1 ends stored)
  added_beside many ends stored others counts are apart =
      (once_from 1 ends stored (others ++ stored) are (λ m high none. all_both (λ row. is_of k m row ≡ false) others stored (are_not k 1 m others high apart) none), among_from many 1 ends stored (omega arith) (omega (arith, counts)))

-- what acts do

module _ (zone : ZoneRules) (entered : Entered) where
  -- a deadline whose acts have no end has no row
  rows_none : (k n : ℕ) (acts : List ActRow) (ds : List DeadlineRow) → end zone entered (acts_of_deadline k n acts) ≡ None → AreOthers k n (rows zone entered acts ds)
  rows_none k n acts [] none = tt
  rows_none k n acts (d ∷ ds) none = all_both (λ row. is_of k n row ≡ false) (row_of_deadline zone entered acts d) (rows zone entered acts ds) (at (is_deadline k n d) refl) (rows_none k n acts ds none)
    where
      at : (b : Bool) → is_deadline k n d ≡ b → AreOthers k n (row_of_deadline zone entered acts d)
      at true e =
          let case : d.case ≡ k = grind (arith, nat_tests, e) in
          let number : d.number ≡ n = grind (arith, nat_tests, e) in
          let is : row_of_deadline zone entered acts d ≡ [] = (λ i. end_row (case i) (number i) (end zone entered (acts_of_deadline (case i) (number i) acts))) ∙ ap (end_row k n) none in
          subst (AreOthers k n) (sym is) tt
      at false e = row_off zone entered k n d.case d.number _ e

  -- the first acts of new deadlines add no row beside one of its deadline
  once_firsts : (named : List Act) (k m : ℕ) (made : List NewDeadline) (stored : List StoredEnd) → ((j : ℕ) → m ≤ j → AreOthers k j stored)
      → AddsOnce (flat_map (moves_by_act zone entered named) (first_acts_from k m made)) stored
  once_firsts named k m [] stored none = tt
  once_firsts named k m (d ∷ made) stored none =
      let first = end zone entered (d.first ∷ []) in
      let changes = end_changes k m None first in
      once_both changes (flat_map (moves_by_act zone entered named) (first_acts_from k (m + 1) made)) stored (once_at k m None first stored (λ _. none m (omega arith)))
      (once_firsts named k (m + 1) made (all_changed_ends changes stored)
      (λ j high. still_none k j k m None first stored (turned k j k m (is_earlier k m k j (inr (omega (arith, high))))) (none j (omega (arith, high)))))

-- each row that is added is of a deadline that gets an act
among_acts : (zone : ZoneRules) (entered : Entered) (named : List Act) (changes : List Change) → AddsAmong (GetsAct changes) (end_moves zone entered named changes)
among_acts zone entered named [] = tt
among_acts zone entered named (AddAct row ∷ xs) =
    among_both (GetsAct (AddAct row ∷ xs)) (moves_by_act zone entered named row) (end_moves zone entered named xs)
    (among_at row.case row.deadline (GetsAct (AddAct row ∷ xs)) (end_running zone (standing zone entered (acts_before named row))) (end_running zone (standing zone entered (acts_with named row))) (inl (refl, refl)))
    (among_more (GetsAct xs) (GetsAct (AddAct row ∷ xs)) (λ k n gets. inr gets) (end_moves zone entered named xs) (among_acts zone entered named xs))
among_acts zone entered named (AddCalendar row ∷ xs) = among_acts zone entered named xs
among_acts zone entered named (RemoveCalendar number ∷ xs) = among_acts zone entered named xs
among_acts zone entered named (AddCase row ∷ xs) = among_acts zone entered named xs
among_acts zone entered named (AddParty row ∷ xs) = among_acts zone entered named xs
among_acts zone entered named (AddEntry row ∷ xs) = among_acts zone entered named xs
among_acts zone entered named (AddDeadline row ∷ xs) = among_acts zone entered named xs
among_acts zone entered named (AddLocalRule row ∷ xs) = among_acts zone entered named xs

-- of an accepted command
module _ (court : CourtSettings) (h : History) (c : Command) (is : IsHistory court (c ∷ h)) (entered : Entered) where
  abbrev zone : ZoneRules
  zone = zone_of court

  abbrev k : ℕ
  k = case_number c.action

  abbrev n : ℕ
  n = deadline_number c.action

  abbrev acts : List ActRow
  acts = act_rows h

  abbrev its_acts : List Act
  its_acts = acts_of_deadline k n acts

  abbrev moves : List ActRow → List EndChange
  moves made = flat_map (moves_by_act zone entered its_acts) made

  abbrev stored : List StoredEnd
  stored = rows zone entered acts (deadline_rows h)

  abbrev next : ℕ
  next = length (deadlines_of_case k (deadline_rows h)) + 1

  abbrev made : List NewDeadline
  made = deadlines_made (rule_found h c.action) c.action

  abbrev grown : List StoredEnd
  grown = first_ends zone entered k next made

  abbrev LaterOnce : List Act → Type 0
  LaterOnce news = AddsOnce (moves (later_made court h c is news)) (stored ++ grown)

  -- nor does the act on the deadline that it names
  later_once : LaterOnce (acts_made c.action)
  later_once =
      elim (one_made c.action) [
        | inl none ↦ subst LaterOnce (sym none) tt
        | inr it ↦
            let act = it.0 in
            let there = there_where_acted court h c is act it.1 in
            let by_act : AddsOnce (end_changes k n (end zone entered its_acts) (end zone entered (its_acts ++ act ∷ []))) (stored ++ grown) =
            once_at k n (end zone entered its_acts) (end zone entered (its_acts ++ act ∷ [])) (stored ++ grown)
            (λ none. all_both (λ row. is_of k n row ≡ false) stored grown (rows_none zone entered k n acts (deadline_rows h) none) (first_off zone entered k n next made (omega (arith, there.1)))) in
            let one : moves (later_made court h c is (act ∷ [])) ≡ end_changes k n (end zone entered its_acts) (end zone entered (its_acts ++ act ∷ [])) =
            append-nil _ ∙ ap (λ xs. end_changes k n (end zone entered xs) (end zone entered (xs ++ act ∷ []))) (named_before its_acts k n act) in
            subst LaterOnce (sym it.1) (subst (λ xs. AddsOnce xs (stored ++ grown)) (sym one) by_act)
      ]

  -- nor do all its acts
  once_made : AddsOnce (moves (firsts_made court h c is ++ later_made court h c is (acts_made c.action))) stored
  once_made =
      let firsts = firsts_made court h c is in
      let news = later_made court h c is (acts_made c.action) in
      subst (λ xs. AddsOnce xs stored) (sym (flat_map-append (moves_by_act zone entered its_acts) firsts news))
      (once_both (moves firsts) (moves news) stored (once_firsts zone entered its_acts k next made stored (λ j high. rows_none zone entered k j acts (deadline_rows h) (ap (end zone entered) (none_yet court h c is j high))))
      (subst (AddsOnce (moves news)) (sym (firsts_added zone entered its_acts k next made stored)) later_once))

module _ (court : CourtSettings) (entered : Entered) (named : List Act) (changes : List Change) (h : History) (c : Command) (follows : Follows court entered named changes h c) where
  -- no row is added beside one of its deadline
  moved_once : AddsOnce (end_moves (zone_of court) entered named changes) (end_rows court (rows_of court h))
  unfolding end_rows
  moved_once =
      let zone = zone_of court in
      let its = acts_of_deadline (case_number c.action) (deadline_number c.action) (act_rows h) in
      let all : List EndChange = flat_map (moves_by_act zone entered its) (made_rows court entered named changes h c follows) in
      let are : end_moves zone entered named changes ≡ all = moves_are zone entered named changes ∙ λ i. flat_map (moves_by_act zone entered (follows.named i)) (rows_made court entered named changes h c follows i) in
      subst (λ xs. AddsOnce xs (end_rows court (rows_of court h))) (sym are)
      (subst (λ e. AddsOnce all (rows zone e (act_rows h) (deadline_rows h))) follows.stands (once_made court h c follows.history entered))

  -- no row is added beside one of its deadline, and each is of a deadline that gets an act
  pub added_moves : AddsOnce (end_moves (zone_of court) entered named changes) (end_rows court (rows_of court h)) × AddsAmong (GetsAct changes) (end_moves (zone_of court) entered named changes)
  added_moves = (moved_once, among_acts (zone_of court) entered named changes)
