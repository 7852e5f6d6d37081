-- The changes of ends that follow from the acts of a command lead from the ends before it to those after it.
use Rattle.std.proofs.Common.{◌≡◌, ◌∙◌, ◌≤◌, ◌<◌, ◌⊎◌, inl, inr, ℕ, ◌+◌, ◌==◌, ◌&&◌, Bool, true, false, List, [], ◌∷◌, ◌++◌, length, Option, Some, None, IsPermutation, refl, sym, ap, ap₂, subst, arith, append-nil, append_assoc}
use Rattle.std.specs.List.{AllByRecursion, flat_map}
use Rattle.std.specs.Option.{option_and_then}
use Rattle.std.specs.Prelude.{is_some, is_none, unwrap_or}
use Rattle.std.proofs.lemmas.Bool.Decides.{nat_tests}
use Rattle.std.proofs.lemmas.Bool.{and_right}
use Rattle.std.proofs.lemmas.List.{append_cancel_left}
use Rattle.std.proofs.lemmas.Grind.{flat_map-append}
use Rattle.std.proofs.lemmas.List.Sorted.{IsPermutation-refl}
use Rattle.civil_time.specs.Zone.{ZoneRules}
use Rattle.court_days.specs.Calendar.{Entered}
use Rattle.court_days.specs.Court.{CourtSettings, zone_of}
use Rattle.court_rules.specs.Standings.{standing}
use Rattle.court_rules.specs.declared.act.Act.{Act}
use Rattle.docket_command.specs.declared.command.Action.{Action}
use Rattle.docket_command.specs.declared.command.Command.{Command}
use Rattle.docket_command.specs.declared.refusal.Reply.{Reply}
use Rattle.docket_command.specs.declared.command.Action.TheVariants.{RuleMotion, Dispose, StatementServed, Extend, Satisfy, Vacate}
use Rattle.docket_history.specs.Actions.{deadline_named, deadlines_made, acts_made}
use Rattle.docket_history.specs.DeadlinesMade.{extension}
use Rattle.docket_decisions.specs.EndMoves.{moves_by_act, end_moves}
use Rattle.docket_decisions.specs.EndRows.{end_row, row_of_deadline, end_rows, end_running, is_of, all_changed_ends, end_changes}
use Rattle.docket_history.specs.Histories.{History, deadline_rows, act_rows, deadlines, deadlines_of_case, acts_of_deadline, deadline_rows_from, first_acts_from, act_rows_on, case_number, deadline_number, rule_found}
use Rattle.docket_decisions.specs.Outcomes.{IsHistory, shown_fresh, case_of_number}
use Rattle.docket_decisions.specs.Tables.{Tables, rows_of, all_changed, with_receipt}
use Rattle.docket_history.specs.Records.{calendar}
use Rattle.docket_history.specs.Views.{deadline_at, deadline_shown, named_in, acts_in}
use Rattle.docket_history.specs.declared.row.NewDeadline.{NewDeadline}
use Rattle.docket_decisions.specs.declared.end_row.EndChange.{EndChange}
use Rattle.docket_decisions.specs.declared.end_row.StoredEnd.{StoredEnd}
use Rattle.docket_decisions.specs.declared.end_row.EndTime.{EndTime}
use Rattle.docket_history.specs.declared.row.ActRow.{ActRow}
use Rattle.docket_history.specs.declared.row.Change.{Change}
use Rattle.docket_history.specs.declared.row.Change.TheVariants.{AddCalendar, RemoveCalendar, AddCase, AddParty, AddEntry, AddDeadline, AddAct, AddLocalRule}
use Rattle.docket_history.specs.declared.row.DeadlineRow.{DeadlineRow}
use Rattle.docket_decisions.proofs.AddedActs.{acts_both, one_act, both_same, turned, IsEarlier, is_earlier, no_firsts, no_later, its_later, named_before, acts_added, acts_are}
use Rattle.docket_decisions.proofs.EndChanges.{all_changed_ends-append}
use Rattle.docket_decisions.proofs.OneDeadline.{AreOthers, one_changed, AreNot, IsOnce, is_deadline, deadline_once, IsWithin, all_within}
use Rattle.docket_history.proofs.Asked.{none_acted}
use Rattle.docket_decisions.proofs.Leading.{seen}
use Rattle.docket_decisions.proofs.LimitsKept.{IsPassed, passed, there_is, named_there, acts_are as acts_shown, all_kept}
use Rattle.docket_decisions.proofs.ListLemmas.{all_both, all_front, all_later}

-- the rows of deadlines

module _ (zone : ZoneRules) (entered : Entered) where
  abbrev pub end : List Act → Option EndTime
  end acts = end_running zone (standing zone entered acts)

  abbrev pub rows : List ActRow → List DeadlineRow → List StoredEnd
  rows acts ds = flat_map (row_of_deadline zone entered acts) ds

  abbrev KeepsActs : List ActRow → List ActRow → DeadlineRow → Type 0
  KeepsActs acts more d = acts_of_deadline d.case d.number more ≡ acts_of_deadline d.case d.number acts

  rows_kept : (acts more : List ActRow) (ds : List DeadlineRow) → AllByRecursion (KeepsActs acts more) ds → rows more ds ≡ rows acts ds
  rows_kept acts more [] all = refl
  rows_kept acts more (d ∷ ds) all = ap₂ (λ xs ys. end_row d.case d.number (end xs) ++ ys) all.0 (rows_kept acts more ds all.1)

  pub row_off : (k n c m : ℕ) (at : Option EndTime) → (c == k && m == n) ≡ false → AreOthers k n (end_row c m at)
  row_off k n c m None off = tt
  row_off k n c m (Some e) off = (off, tt)

  rows_off : (k n : ℕ) (acts : List ActRow) (ds : List DeadlineRow) → AreNot (is_deadline k n) ds → AreOthers k n (rows acts ds)
  rows_off k n acts [] off = tt
  rows_off k n acts (d ∷ ds) off = all_both (λ row. is_of k n row ≡ false) (row_of_deadline zone entered acts d) (rows acts ds) (row_off k n d.case d.number _ off.0) (rows_off k n acts ds off.1)

  -- new deadlines

  abbrev pub first_ends : ℕ → ℕ → List NewDeadline → List StoredEnd
  first_ends k m [] = []
  first_ends k m (d ∷ made) = end_row k m (end (d.first ∷ [])) ++ first_ends k (m + 1) made

  pub first_off : (k n m : ℕ) (made : List NewDeadline) → n < m → AreOthers k n (first_ends k m made)
  first_off k n m [] low = tt
  first_off k n m (d ∷ made) low =
      all_both (λ row. is_of k n row ≡ false) (end_row k m (end (d.first ∷ []))) (first_ends k (m + 1) made) (row_off k n k m (end (d.first ∷ [])) (is_earlier k n k m (inr low))) (first_off k n (m + 1) made (omega (arith, low)))

  added : (k m : ℕ) (at : Option EndTime) (ends : List StoredEnd) → all_changed_ends (end_changes k m None at) ends ≡ ends ++ end_row k m at
  added k m None ends = sym (append-nil ends)
  added k m (Some e) ends = refl

  -- their first acts add their ends
  pub firsts_added : (named : List Act) (k m : ℕ) (made : List NewDeadline) (ends : List StoredEnd)
      → all_changed_ends (flat_map (moves_by_act zone entered named) (first_acts_from k m made)) ends ≡ ends ++ first_ends k m made
  firsts_added named k m [] ends = sym (append-nil ends)
  firsts_added named k m (d ∷ made) ends =
      let first = end_changes k m None (end (d.first ∷ [])) in
      let rest = flat_map (moves_by_act zone entered named) (first_acts_from k (m + 1) made) in
      all_changed_ends-append first rest ends
      ∙ ap (all_changed_ends rest) (added k m (end (d.first ∷ [])) ends)
      ∙ firsts_added named k (m + 1) made (ends ++ end_row k m (end (d.first ∷ [])))
      ∙ append_assoc ends (end_row k m (end (d.first ∷ []))) (first_ends k (m + 1) made)

  -- which are those of their rows
  firsts_are : (k m : ℕ) (made : List NewDeadline) (acts later : List ActRow) → ((j : ℕ) → m ≤ j → acts_of_deadline k j acts ≡ []) → ((j : ℕ) → m ≤ j → acts_of_deadline k j later ≡ [])
      → rows (acts ++ (first_acts_from k m made ++ later)) (deadline_rows_from k m made) ≡ first_ends k m made
  firsts_are k m [] acts later none after = refl
  firsts_are k m (d ∷ made) acts later none after =
      let row : ActRow = record { case = k; deadline = m; number = 1; act = d.first } in
      let firsts = first_acts_from k (m + 1) made in
      let others : acts_of_deadline k m (firsts ++ later) ≡ [] = acts_both k m firsts later ∙ ap₂ (λ xs ys. xs ++ ys) (no_firsts k m k (m + 1) made (inr (omega arith))) (after m (omega arith)) in
      let own : acts_of_deadline k m (acts ++ (row ∷ (firsts ++ later))) ≡ d.first ∷ [] =
      acts_both k m acts (row ∷ (firsts ++ later))
      ∙ ap₂ (λ xs ys. xs ++ ys) (none m (omega arith)) (one_act k m row (firsts ++ later) true (both_same k m) ∙ ap (λ xs. d.first ∷ xs) others) in
      let still : (j : ℕ) → m + 1 ≤ j → acts_of_deadline k j (acts ++ row ∷ []) ≡ [] =
      λ j high.
      acts_both k j acts (row ∷ []) ∙ ap₂ (λ xs ys. xs ++ ys) (none j (omega (arith, high)))
      (let other : (m == j) ≡ false = grind (arith, nat_tests, high) in one_act k j row [] false (ap (λ b. (k == k) && b) other ∙ and_right (k == k) false refl)) in
      ap₂ (λ xs ys. end_row k m (end xs) ++ ys) own
      (ap (λ all. rows all (deadline_rows_from k (m + 1) made)) (sym (append_assoc acts (row ∷ []) (firsts ++ later)))
      ∙ firsts_are k (m + 1) made (acts ++ row ∷ []) later still (λ j high. after j (omega (arith, high))))

  -- the deadlines that were there

  module _ (acts : List ActRow) (ds : List DeadlineRow) (within : AllByRecursion (IsWithin ds) ds) (k : ℕ) (made : List NewDeadline) (later : List ActRow) where
    abbrev count : ℕ
    count = length (deadlines_of_case k ds)

    abbrev firsts : List ActRow
    firsts = first_acts_from k (count + 1) made

    abbrev more : List ActRow
    more = acts ++ (firsts ++ later)

    abbrev HasNone : DeadlineRow → Type 0
    HasNone d = acts_of_deadline d.case d.number later ≡ []

    kept_one : (d : DeadlineRow) → IsWithin ds d → HasNone d → KeepsActs acts more d
    kept_one d low off =
        acts_both d.case d.number acts (firsts ++ later)
        ∙ ap (λ xs. acts_of_deadline d.case d.number acts ++ xs)
        (acts_both d.case d.number firsts later ∙ ap₂ (λ xs ys. xs ++ ys) (no_firsts d.case d.number k (count + 1) made (earlier (k == d.case) refl)) off)
        ∙ append-nil _
      where
        earlier : (b : Bool) → (k == d.case) ≡ b → IsEarlier d.case d.number k (length (deadlines_of_case k ds) + 1)
        earlier false e = inl e
        earlier true e =
            let is : d.case ≡ k = grind (arith, nat_tests, e) in
            inr (omega (arith, low, ap (λ j. length (deadlines_of_case j ds)) is))

    kept_all : (some : List DeadlineRow) → AllByRecursion (IsWithin ds) some → AllByRecursion HasNone some → AllByRecursion (KeepsActs acts more) some
    kept_all [] all off = tt
    kept_all (d ∷ some) all off = (kept_one d all.0 off.0, kept_all some all.1 off.1)

    same_rows : (some : List DeadlineRow) → AllByRecursion (IsWithin ds) some → AllByRecursion HasNone some → rows more some ≡ rows acts some
    same_rows some all off = rows_kept acts more some (kept_all some all off)

    -- one of them gets an act
    module _ (n : ℕ) (once : IsOnce (is_deadline k n) ds) (low : n ≤ count) (act : Act) (are : acts_of_deadline k n later ≡ act ∷ []) (off : (d : DeadlineRow) → is_deadline k n d ≡ false → HasNone d) (ends : List StoredEnd) (apart : AreOthers k n ends) where
      offs : (some : List DeadlineRow) → AreNot (is_deadline k n) some → AllByRecursion HasNone some
      offs [] all = tt
      offs (d ∷ some) all = (off d all.0, offs some all.1)

      split_within : AllByRecursion (IsWithin ds) (once.front ++ once.one ∷ once.back)
      split_within = subst (λ some. AllByRecursion (IsWithin ds) some) once.is within

      front_same : rows more once.front ≡ rows acts once.front
      front_same = same_rows once.front (all_front (IsWithin ds) once.front (once.one ∷ once.back) split_within) (offs once.front once.before)

      back_same : rows more once.back ≡ rows acts once.back
      back_same = same_rows once.back (all_later (IsWithin ds) once.front (once.one ∷ once.back) split_within).1 (offs once.back once.after)

      own : (all : List ActRow) → row_of_deadline zone entered all once.one ≡ end_row k n (end (acts_of_deadline k n all))
      own all =
          let case : once.one.case ≡ k = grind (arith, nat_tests, once.passes) in
          let number : once.one.number ≡ n = grind (arith, nat_tests, once.passes) in
          λ i. end_row (case i) (number i) (end (acts_of_deadline (case i) (number i) all))

      longer : acts_of_deadline k n more ≡ acts_of_deadline k n acts ++ act ∷ []
      longer =
          acts_both k n acts (firsts ++ later)
          ∙ ap (λ xs. acts_of_deadline k n acts ++ xs)
          (acts_both k n firsts later ∙ ap₂ (λ xs ys. xs ++ ys) (no_firsts k n k (count + 1) made (inr (omega (arith, low)))) are)

      parts : (all : List ActRow) → rows all once.front ≡ rows acts once.front → rows all once.back ≡ rows acts once.back
          → rows all ds ++ ends ≡ rows acts once.front ++ (end_row k n (end (acts_of_deadline k n all)) ++ (rows acts once.back ++ ends))
      parts all front back =
          ap (λ some. rows all some ++ ends) once.is
          ∙ ap (λ xs. xs ++ ends) (flat_map-append (row_of_deadline zone entered all) once.front (once.one ∷ once.back))
          ∙ (λ i. (front i ++ (own all i ++ back i)) ++ ends)
          ∙ append_assoc (rows acts once.front) (end_row k n (end (acts_of_deadline k n all)) ++ rows acts once.back) ends
          ∙ ap (λ xs. rows acts once.front ++ xs) (append_assoc (end_row k n (end (acts_of_deadline k n all))) (rows acts once.back) ends)

      acted : IsPermutation (all_changed_ends (end_changes k n (end (acts_of_deadline k n acts)) (end (acts_of_deadline k n acts ++ act ∷ []))) (rows acts ds ++ ends)) (rows more ds ++ ends)
      acted =
          let stored = end (acts_of_deadline k n acts) in
          let next = end (acts_of_deadline k n acts ++ act ∷ []) in
          let changes = end_changes k n stored next in
          let after : rows more ds ++ ends ≡ rows acts once.front ++ (end_row k n next ++ (rows acts once.back ++ ends)) =
          parts more front_same back_same ∙ ap (λ xs. rows acts once.front ++ (end_row k n (end xs) ++ (rows acts once.back ++ ends))) longer in
          subst (λ xs. IsPermutation (all_changed_ends changes xs) (rows more ds ++ ends)) (sym (parts acts refl refl))
          (subst (λ ys. IsPermutation (all_changed_ends changes (rows acts once.front ++ (end_row k n stored ++ (rows acts once.back ++ ends)))) ys) (sym after)
          (one_changed k n (rows acts once.front) (rows acts once.back ++ ends) (rows_off k n acts once.front once.before)
          (all_both (λ row. is_of k n row ≡ false) (rows acts once.back) ends (rows_off k n acts once.back once.after) apart) stored next))

    -- all deadlines, with the new ones
    module _ (none : (j : ℕ) → count + 1 ≤ j → acts_of_deadline k j acts ≡ []) (after : (j : ℕ) → count + 1 ≤ j → acts_of_deadline k j later ≡ []) (named : List Act) where
      abbrev grown : List StoredEnd
      grown = first_ends k (count + 1) made

      abbrev moves : List ActRow → List EndChange
      moves all = flat_map (moves_by_act zone entered named) all

      whole : rows more (ds ++ deadline_rows_from k (count + 1) made) ≡ rows more ds ++ grown
      whole =
          flat_map-append (row_of_deadline zone entered more) ds (deadline_rows_from k (count + 1) made)
          ∙ ap (λ xs. rows more ds ++ xs) (firsts_are k (count + 1) made acts later none after)

      one_by_one : all_changed_ends (moves (firsts ++ later)) (rows acts ds) ≡ all_changed_ends (moves later) (rows acts ds ++ grown)
      one_by_one =
          ap (λ xs. all_changed_ends xs (rows acts ds)) (flat_map-append (moves_by_act zone entered named) firsts later)
          ∙ all_changed_ends-append (moves firsts) (moves later) (rows acts ds)
          ∙ ap (all_changed_ends (moves later)) (firsts_added named k (count + 1) made (rows acts ds))

      pub all_moved : IsPermutation (all_changed_ends (moves later) (rows acts ds ++ grown)) (rows more ds ++ grown)
          → IsPermutation (all_changed_ends (moves (firsts ++ later)) (rows acts ds)) (rows more (ds ++ deadline_rows_from k (count + 1) made))
      all_moved step =
          subst (λ xs. IsPermutation xs (rows more (ds ++ deadline_rows_from k (count + 1) made))) (sym one_by_one)
          (subst (λ ys. IsPermutation (all_changed_ends (moves later) (rows acts ds ++ grown)) ys) (sym whole) step)

-- the acts that changes add

pub moves_are : (zone : ZoneRules) (entered : Entered) (named : List Act) (changes : List Change) → end_moves zone entered named changes ≡ flat_map (moves_by_act zone entered named) (acts_added changes)
moves_are zone entered named [] = refl
moves_are zone entered named (AddAct row ∷ xs) = ap (λ more. moves_by_act zone entered named row ++ more) (moves_are zone entered named xs)
moves_are zone entered named (AddCalendar row ∷ xs) = moves_are zone entered named xs
moves_are zone entered named (RemoveCalendar number ∷ xs) = moves_are zone entered named xs
moves_are zone entered named (AddCase row ∷ xs) = moves_are zone entered named xs
moves_are zone entered named (AddParty row ∷ xs) = moves_are zone entered named xs
moves_are zone entered named (AddEntry row ∷ xs) = moves_are zone entered named xs
moves_are zone entered named (AddDeadline row ∷ xs) = moves_are zone entered named xs
moves_are zone entered named (AddLocalRule row ∷ xs) = moves_are zone entered named xs

-- a command makes at most one act beside the first ones

abbrev IsOneAtMost : List Act → Type 0
IsOneAtMost acts = (acts ≡ []) ⊎ ((act : Act) × (acts ≡ act ∷ []))

one_extension : (days until : Option ℕ) → IsOneAtMost (extension days until)
one_extension None None = inl refl
one_extension None (Some until) = inr (_, refl)
one_extension (Some days) None = inr (_, refl)
one_extension (Some days) (Some until) = inl refl

pub one_made : (a : Action) → IsOneAtMost (acts_made a)
one_made (RuleMotion a) = inr (_, refl)
one_made (Dispose a) = inr (_, refl)
one_made (StatementServed a) = inr (_, refl)
one_made (Extend a) = one_extension a.days a.until
one_made (Satisfy a) = inr (_, refl)
one_made (Vacate a) = inr (_, refl)
one_made _ = inl refl

-- of an accepted command

module _ (court : CourtSettings) (h : History) (c : Command) (is : IsHistory court (c ∷ h)) where
  abbrev a : Action
  a = c.action

  abbrev k : ℕ
  k = case_number a

  abbrev n : ℕ
  n = deadline_number a

  abbrev before : List DeadlineRow
  before = deadline_rows h

  abbrev acts : List ActRow
  acts = act_rows h

  abbrev its_acts : List Act
  its_acts = acts_of_deadline k n acts

  abbrev many : ℕ
  many = length (deadlines_of_case k before)

  abbrev zone : ZoneRules
  zone = zone_of court

  abbrev IsThere : ℕ → Type 0
  IsThere m = (1 ≤ m) × (m ≤ many)

  free : IsPassed court h a
  free = passed court h c is.0.0 is.0.1

  -- the deadline that it names is there, and its acts are shown
  abbrev IsSeen : Option ℕ → Type 0
  IsSeen o = (o ≡ None) ⊎ (IsThere (unwrap_or o 0) × (acts_in (deadline_shown (shown_fresh h a)) ≡ acts_of_deadline k (unwrap_or o 0) acts))

  seen_by : (o : Option ℕ) → deadline_named a ≡ o → IsSeen o
  seen_by None named = inl refl
  seen_by (Some m) named =
      elim (seen h a free.case) [
        | inl none ↦
            let there : is_none (deadline_shown (shown_fresh h a)) ≡ false = subst (λ o. is_some o && is_none (deadline_shown (shown_fresh h a)) ≡ false) named free.deadline in
            absurd (let no : true ≡ false = subst (λ o. is_none (named_in (option_and_then (case_of_number h a) o)) ≡ false) none there in cc)
        | inr found ↦
            let there = named_there h a m named found free.deadline in inr (
              there_is h k m there,
              ap (λ shown. acts_in (named_in shown)) found ∙ ap (λ o. acts_in (option_and_then (deadline_at (deadlines k h)) o)) named ∙ acts_shown h k m there,
            )
      ]

  seen_named : IsSeen (deadline_named a)
  seen_named = seen_by (deadline_named a) refl

  none_named : deadline_named a ≡ None → its_acts ≡ []
  none_named none = (all_kept court h is.1 k n).absent (inl (ap (λ o. unwrap_or o 0) none))

  none_shown : deadline_named a ≡ None → acts_in (deadline_shown (shown_fresh h a)) ≡ []
  none_shown none =
      elim (seen h a free.case) [
        | inl off ↦ ap (λ o. acts_in (named_in (option_and_then (case_of_number h a) o))) off
        | inr found ↦ ap (λ shown. acts_in (named_in shown)) found ∙ ap (λ o. acts_in (option_and_then (deadline_at (deadlines k h)) o)) none
      ]

  pub named_shown : acts_in (deadline_shown (shown_fresh h a)) ≡ its_acts
  named_shown = elim seen_named [ inl none ↦ none_shown none ∙ sym (none_named none) | inr it ↦ it.1 ]

  -- what it makes

  pub there_where_acted : (act : Act) → acts_made a ≡ act ∷ [] → IsThere n
  there_where_acted act made =
      elim seen_named [
        | inl none ↦ absurd (let no : [] ≡ act ∷ [] = sym (none_acted a none) ∙ made in cc)
        | inr it ↦ it.0
      ]

  abbrev pub firsts_made : List ActRow
  firsts_made = first_acts_from k (many + 1) (deadlines_made (rule_found h a) a)

  abbrev pub later_made : List Act → List ActRow
  later_made news = act_rows_on k n (length its_acts + 1) news

  pub none_yet : (j : ℕ) → many + 1 ≤ j → acts_of_deadline k j acts ≡ []
  none_yet j high = (all_kept court h is.1 k j).absent (inr (omega (arith, high)))

  module _ (entered : Entered) where
    abbrev Moves : List Act → Type 0
    Moves news =
        IsPermutation (all_changed_ends (flat_map (moves_by_act zone entered its_acts) (firsts_made ++ later_made news)) (rows zone entered acts before))
        (rows zone entered (acts ++ (firsts_made ++ later_made news)) (before ++ deadline_rows_from k (many + 1) (deadlines_made (rule_found h a) a)))

    none_acted_on : (ds : List DeadlineRow) → AllByRecursion (λ (d : DeadlineRow). acts_of_deadline d.case d.number [] ≡ []) ds
    none_acted_on [] = tt
    none_acted_on (d ∷ ds) = (refl, none_acted_on ds)

    moved_quietly : Moves []
    moved_quietly =
        let grown = first_ends zone entered k (many + 1) (deadlines_made (rule_found h a) a) in
        let same = same_rows zone entered acts before (all_within h) k (deadlines_made (rule_found h a) a) [] before (all_within h) (none_acted_on before) in
        all_moved zone entered acts before (all_within h) k (deadlines_made (rule_found h a) a) [] none_yet (λ j high. refl) its_acts
        (subst (λ xs. IsPermutation (rows zone entered acts before ++ grown) (xs ++ grown)) (sym same) (IsPermutation-refl _))

    moved_with : (act : Act) → IsThere n → Moves (act ∷ [])
    moved_with act there =
        let made = deadlines_made (rule_found h a) a in
        let grown = first_ends zone entered k (many + 1) made in
        let later = later_made (act ∷ []) in
        let off : (d : DeadlineRow) → is_deadline k n d ≡ false → acts_of_deadline d.case d.number later ≡ [] =
        λ d other. no_later d.case d.number k n (length its_acts + 1) (act ∷ []) (turned d.case d.number k n other) in
        let after : (j : ℕ) → many + 1 ≤ j → acts_of_deadline k j later ≡ [] =
        λ j high. no_later k j k n (length its_acts + 1) (act ∷ []) (let other : (n == j) ≡ false = grind (arith, nat_tests, high, there.1) in ap (λ b. (k == k) && b) other ∙ and_right (k == k) false refl) in
        let step = acted zone entered acts before (all_within h) k made later n (deadline_once h k n there.0 there.1) there.1 act (its_later k n (length its_acts + 1) (act ∷ [])) off grown (first_off zone entered k n (many + 1) made (omega (arith, there.1))) in
        let one : flat_map (moves_by_act zone entered its_acts) later ≡ end_changes k n (end zone entered its_acts) (end zone entered (its_acts ++ act ∷ [])) =
        append-nil _ ∙ ap (λ xs. end_changes k n (end zone entered xs) (end zone entered (xs ++ act ∷ []))) (named_before its_acts k n act) in
        all_moved zone entered acts before (all_within h) k made later none_yet after its_acts
        (subst (λ xs. IsPermutation (all_changed_ends xs (rows zone entered acts before ++ grown)) (rows zone entered (acts ++ (firsts_made ++ later)) before ++ grown)) (sym one) step)

    moves_made : Moves (acts_made a)
    moves_made =
        elim (one_made a) [
          | inl none ↦ subst Moves (sym none) moved_quietly
          | inr it ↦ subst Moves (sym it.1) (moved_with it.0 (there_where_acted it.0 it.1))
        ]

-- the command comes after the history, and the calendar stays; the deadline that it names has these acts before it, and the changes
-- lead to the tables with it
pub record Follows (court : CourtSettings) (entered : Entered) (acts : List Act) (changes : List Change) (h : History) (c : Command) : Type 0 where
  pub history : IsHistory court (c ∷ h)
  pub stands : entered ≡ calendar h
  pub stays : entered ≡ calendar (c ∷ h)
  pub named : acts ≡ acts_of_deadline (case_number c.action) (deadline_number c.action) (act_rows h)
  pub reply : Reply
  pub leads : with_receipt c reply (all_changed changes (rows_of court h)) ≡ rows_of court (c ∷ h)

module _ (court : CourtSettings) (entered : Entered) (named : List Act) (changes : List Change) (h : History) (c : Command) (follows : Follows court entered named changes h c) where
  abbrev pub made_rows : List ActRow
  made_rows = firsts_made court h c follows.history ++ later_made court h c follows.history (acts_made c.action)

  pub rows_made : acts_added changes ≡ made_rows
  rows_made = append_cancel_left (act_rows h) _ _ (sym (acts_are changes (rows_of court h)) ∙ ap (λ (t : Tables). t.acts) follows.leads)

  -- they lead from the ends before the command to those after it
  pub moved_ends : IsPermutation (all_changed_ends (end_moves (zone_of court) entered named changes) (end_rows court (rows_of court h))) (end_rows court (rows_of court (c ∷ h)))
  unfolding end_rows
  moved_ends =
      let zone = zone_of court in
      let its = acts_of_deadline (case_number c.action) (deadline_number c.action) (act_rows h) in
      let all : List EndChange = flat_map (moves_by_act zone entered its) made_rows in
      let made : end_moves zone entered named changes ≡ all = moves_are zone entered named changes ∙ λ i. flat_map (moves_by_act zone entered (follows.named i)) (rows_made i) in
      subst (λ xs. IsPermutation (all_changed_ends xs (end_rows court (rows_of court h))) (end_rows court (rows_of court (c ∷ h)))) (sym made)
      (subst (λ e. IsPermutation (all_changed_ends all (rows zone e (act_rows h) (deadline_rows h))) (end_rows court (rows_of court (c ∷ h)))) follows.stands
      (subst (λ e. IsPermutation (all_changed_ends all (rows zone entered (act_rows h) (deadline_rows h))) (rows zone e (act_rows (c ∷ h)) (deadline_rows (c ∷ h)))) follows.stays
      (moves_made court h c follows.history entered)))
