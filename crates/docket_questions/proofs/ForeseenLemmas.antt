-- The deadlines of a history with one more command, by the changes of the command.
use Rattle.std.proofs.Common.{◌≡◌, ◌∙◌, inl, inr, ◌≤◌, ◌==◌, ℕ, zero, suc, ◌+◌, ◌-◌, Bool, true, false, cond, List, [], ◌∷◌, ◌++◌, length, drop, Option, Some, None, refl, sym, ap, ap₂, arith, append-nil, append_assoc}
use Rattle.std.proofs.Math.Seq.{drop-append_seam}
use Rattle.std.proofs.lemmas.Bool.Decides.{nat_tests}
use Rattle.std.proofs.lemmas.List.{append_cancel_left}
use Rattle.std.proofs.lemmas.List.Elements.{filter-append}
use Rattle.std.specs.List.{find, slice_get}
use Rattle.std.specs.Option.{option_map}
use Rattle.court_days.specs.Court.{CourtSettings, zone_of}
use Rattle.court_rules.specs.Standings.{AreActs}
use Rattle.court_rules.specs.declared.act.Act.{Act}
use Rattle.docket_command.specs.declared.command.Command.{Command}
use Rattle.docket_command.specs.declared.refusal.Reply.{Reply}
use Rattle.docket_history.specs.Actions.{deadlines_made}
use Rattle.docket_history.specs.Histories.{History, act_rows, acts_of_deadline, case_number, deadline_rows, deadline_rows_from, deadlines, deadlines_from, deadlines_of_case, rule_found}
use Rattle.docket_history.specs.Views.{deadline_at}
use Rattle.docket_history.specs.declared.row.ActRow.{ActRow}
use Rattle.docket_history.specs.declared.row.Change.{Change}
use Rattle.docket_history.specs.declared.row.Change.TheVariants.{AddDeadline}
use Rattle.docket_history.specs.declared.row.DeadlineRow.{DeadlineRow}
use Rattle.docket_history.specs.declared.row.NewDeadline.{NewDeadline}
use Rattle.docket_history.specs.declared.view.DeadlineView.{DeadlineView}
use Rattle.docket_decisions.specs.Outcomes.{IsHistory}
use Rattle.docket_decisions.specs.Tables.{Tables, rows_of, changed, all_changed, with_receipt}
use Rattle.docket_decisions.proofs.AddedActs.{IsEarlier, is_earlier, acts_added, acts_are, acts_both}
use Rattle.docket_decisions.proofs.InOrderLemmas.{of_case}
use Rattle.docket_decisions.proofs.Leading.{length-deadlines_from}
use Rattle.docket_decisions.proofs.LimitsKept.{all_kept, lawful_deadlines, within_limits}
use Rattle.docket_decisions.proofs.OneDeadline.{is_deadline}
use Rattle.docket_decisions.proofs.Passed.{one_of_all}
use Rattle.docket_questions.specs.Foreseeing.{acts_with}
use Rattle.docket_questions.specs.Prospects.{deadline_added, deadline_after, deadline_with, with_acts}

-- a list behind another
behind_all : {X : Type 0} (xs ys : List X) (j : ℕ) → slice_get (xs ++ ys) (length xs + j) ≡ slice_get ys j
behind_all [] ys j = let same : 0 + j ≡ j = omega arith in ap (slice_get ys) same
behind_all (x ∷ xs) ys j = let next : suc (length xs) + j ≡ suc (length xs + j) = omega arith in ap (slice_get (x ∷ (xs ++ ys))) next ∙ behind_all xs ys j

within_first : {X : Type 0} (xs ys : List X) (i : ℕ) (x : X) → slice_get xs i ≡ Some x → slice_get (xs ++ ys) i ≡ Some x
within_first [] ys i x is = absurd (cc)
within_first (y ∷ xs) ys zero x is = is
within_first (y ∷ xs) ys (suc i) x is = within_first xs ys i x is

past_all : {X : Type 0} (xs : List X) (i : ℕ) → slice_get xs i ≡ None → length xs ≤ i
past_all [] i none = omega arith
past_all (x ∷ xs) zero none = absurd (cc)
past_all (x ∷ xs) (suc i) none = omega (arith, past_all xs i none)

-- the rows of deadlines that changes add

abbrev deadlines_added : List Change → List DeadlineRow
deadlines_added [] = []
deadlines_added (AddDeadline row ∷ xs) = row ∷ deadlines_added xs
deadlines_added (other ∷ xs) = deadlines_added xs

deadlines_are : (changes : List Change) (t : Tables) → (all_changed changes t).deadlines ≡ t.deadlines ++ deadlines_added changes
deadlines_are [] t = sym (append-nil t.deadlines)
deadlines_are (AddDeadline row ∷ xs) t = deadlines_are xs (changed (AddDeadline row) t) ∙ append_assoc t.deadlines (row ∷ []) (deadlines_added xs)
deadlines_are (other ∷ xs) t = deadlines_are xs (changed other t)

found_added : (k n : ℕ) (changes : List Change) → deadline_added k n changes ≡ find (is_deadline k n) (deadlines_added changes)
found_added k n [] = refl
found_added k n (AddDeadline row ∷ xs) = ap (cond (is_deadline k n row) (Some row)) (found_added k n xs)
found_added k n (other ∷ xs) = found_added k n xs

-- new deadlines, by their numbers

abbrev new_row : ℕ → ℕ → NewDeadline → DeadlineRow
new_row k m d = record { case = k; number = m; party = d.party; rule = d.rule; initial = d.initial }

new_at : (k m : ℕ) (made : List NewDeadline) (i : ℕ) → find (is_deadline k (m + i)) (deadline_rows_from k m made) ≡ slice_get (deadline_rows_from k m made) i
new_at k m [] i = refl
new_at k m (d ∷ made) zero =
    let here : is_deadline k (m + 0) (new_row k m d) ≡ true = grind (arith, nat_tests) in
    ap (λ b. cond b (Some (new_row k m d)) (find (is_deadline k (m + 0)) (deadline_rows_from k (m + 1) made))) here
new_at k m (d ∷ made) (suc i) =
    let off : is_deadline k (m + suc i) (new_row k m d) ≡ false = grind (arith, nat_tests) in
    let next : m + suc i ≡ m + 1 + i = omega arith in
    ap (λ b. cond b (Some (new_row k m d)) (find (is_deadline k (m + suc i)) (deadline_rows_from k (m + 1) made))) off
    ∙ ap (λ n. find (is_deadline k n) (deadline_rows_from k (m + 1) made)) next
    ∙ new_at k (m + 1) made i

none_new : (k n j m : ℕ) (made : List NewDeadline) → IsEarlier k n j m → find (is_deadline k n) (deadline_rows_from j m made) ≡ None
none_new k n j m [] off = refl
none_new k n j m (d ∷ made) off =
    ap (λ b. cond b (Some (new_row j m d)) (find (is_deadline k n) (deadline_rows_from j (m + 1) made))) (is_earlier k n j m off)
    ∙ none_new k n j (m + 1) made (elim off [ inl other ↦ inl other | inr low ↦ inr (omega (arith, low)) ])

-- a deadline, by its place among the rows of its case
from_at : (k m : ℕ) (acts : List ActRow) (rows : List DeadlineRow) (i : ℕ) → slice_get (deadlines_from k m acts rows) i ≡ option_map (deadline_with (acts_of_deadline k (m + i) acts)) (slice_get rows i)
from_at k m acts [] i = refl
from_at k m acts (row ∷ rows) zero = let same : m ≡ m + 0 = omega arith in ap (λ n. Some (deadline_with (acts_of_deadline k n acts) row)) same
from_at k m acts (row ∷ rows) (suc i) =
    let same : m + 1 + i ≡ m + suc i = omega arith in
    from_at k (m + 1) acts rows i ∙ ap (λ n. option_map (deadline_with (acts_of_deadline k n acts)) (slice_get rows i)) same

module _ (court : CourtSettings) (h : History) (c : Command) (changes : List Change) (reply : Reply) (is : IsHistory court h)
    (leads : with_receipt c reply (all_changed changes (rows_of court h)) ≡ rows_of court (c ∷ h)) where
  abbrev added : List ActRow
  added = acts_added changes

  more_acts : act_rows (c ∷ h) ≡ act_rows h ++ added
  more_acts = sym (ap (λ (t : Tables). t.acts) leads) ∙ acts_are changes (rows_of court h)

  -- the acts that the changes add are those of the command
  pub acts_are_added : added ≡ acts_with h c
  acts_are_added = sym (ap (drop (length (act_rows h))) more_acts ∙ drop-append_seam (act_rows h) added)

  abbrev j : ℕ
  j = case_number c.action

  abbrev count : ℕ
  count = length (deadlines_of_case j (deadline_rows h))

  abbrev made : List NewDeadline
  made = deadlines_made (rule_found h c.action) c.action

  abbrev news : List DeadlineRow
  news = deadline_rows_from j (count + 1) made

  deadlines_are_added : deadlines_added changes ≡ news
  deadlines_are_added = append_cancel_left (deadline_rows h) _ _ (sym (deadlines_are changes (rows_of court h)) ∙ ap (λ (t : Tables). t.deadlines) leads)

  module _ (k : ℕ) where
    abbrev olds : List DeadlineRow
    olds = deadlines_of_case k (deadline_rows h)

    -- the deadline at a place after the command
    at_place : (i : ℕ) → slice_get (deadlines k (c ∷ h)) i ≡ option_map (deadline_with (acts_of_deadline k (1 + i) (act_rows h) ++ acts_of_deadline k (1 + i) added)) (slice_get (olds ++ deadlines_of_case k news) i)
    at_place i =
        from_at k 1 (act_rows (c ∷ h)) (deadlines_of_case k (deadline_rows (c ∷ h))) i
        ∙ ap₂ (λ acts rows. option_map (deadline_with acts) (slice_get rows i))
        (ap (acts_of_deadline k (1 + i)) more_acts ∙ acts_both k (1 + i) (act_rows h) added)
        (filter-append (λ (row : DeadlineRow). row.case == k) (deadline_rows h) news)

    -- one that was there has more acts
    still_there : (i : ℕ) (d : DeadlineView) → slice_get (deadlines k h) i ≡ Some d → slice_get (deadlines k (c ∷ h)) i ≡ Some (with_acts (acts_of_deadline k (1 + i) added) d)
    still_there i d there = by_row (slice_get olds i) refl (sym (from_at k 1 (act_rows h) olds i) ∙ there)
      where
        by_row : (o : Option DeadlineRow) → slice_get olds i ≡ o → option_map (deadline_with (acts_of_deadline k (1 + i) (act_rows h))) (slice_get olds i) ≡ Some d
            → slice_get (deadlines k (c ∷ h)) i ≡ Some (with_acts (acts_of_deadline k (1 + i) added) d)
        by_row None e is_it = absurd (let no : None ≡ Some d = sym (ap (option_map (deadline_with (acts_of_deadline k (1 + i) (act_rows h)))) e) ∙ is_it in cc)
        by_row (Some row) e is_it =
            let its : Some (deadline_with (acts_of_deadline k (1 + i) (act_rows h)) row) ≡ Some d = sym (ap (option_map (deadline_with (acts_of_deadline k (1 + i) (act_rows h)))) e) ∙ is_it in
            at_place i
            ∙ ap (option_map (deadline_with (acts_of_deadline k (1 + i) (act_rows h) ++ acts_of_deadline k (1 + i) added))) (within_first olds (deadlines_of_case k news) i row e)
            ∙ ap (option_map (with_acts (acts_of_deadline k (1 + i) added))) its

    -- another is one that the changes add
    module _ (i : ℕ) (past : length olds ≤ i) where
      abbrev IsNew : List DeadlineRow → Type 0
      IsNew ys = slice_get (olds ++ ys) i ≡ find (is_deadline k (1 + i)) news

      by_case : (b : Bool) → (j == k) ≡ b → IsNew (deadlines_of_case k news)
      by_case false off =
          let place : i ≡ length olds + (i - length olds) = omega (arith, past) in
          ap (λ ys. slice_get (olds ++ ys) i) (of_case k j (count + 1) made false off)
          ∙ ap (slice_get (olds ++ [])) place ∙ behind_all olds [] (i - length olds)
          ∙ sym (none_new k (1 + i) j (count + 1) made (inl off))
      by_case true here =
          let place : i ≡ length olds + (i - length olds) = omega (arith, past) in
          let same : j ≡ k = grind (arith, nat_tests, here) in
          let many : count ≡ length olds = ap (λ case. length (deadlines_of_case case (deadline_rows h))) same in
          let number : count + 1 + (i - length olds) ≡ 1 + i = omega (arith, past, many) in
          ap (λ ys. slice_get (olds ++ ys) i) (of_case k j (count + 1) made true here)
          ∙ ap (slice_get (olds ++ news)) place ∙ behind_all olds news (i - length olds)
          ∙ sym (new_at j (count + 1) made (i - length olds))
          ∙ ap₂ (λ case n. find (is_deadline case n) news) same number

      new_there : slice_get (deadlines k (c ∷ h)) i ≡ option_map (deadline_with (acts_of_deadline k (1 + i) added)) (find (is_deadline k (1 + i)) news)
      new_there =
          at_place i
          ∙ ap₂ (λ acts row. option_map (deadline_with (acts ++ acts_of_deadline k (1 + i) added)) row)
          ((all_kept court h is k (1 + i)).absent (inr (omega (arith, past))))
          (by_case (j == k) refl)

  -- so is the deadline of each act after the command
  with_none : (o : Option DeadlineRow) (acts : List Act) → option_map (deadline_with acts) o ≡ option_map (with_acts acts) (option_map (deadline_with []) o)
  with_none None acts = refl
  with_none (Some d) acts = refl

  module _ (k : ℕ) where
    found : (n : ℕ) → find (is_deadline k n) news ≡ deadline_added k n changes
    found n = sym (found_added k n changes ∙ ap (find (is_deadline k n)) deadlines_are_added)

    module _ (i number : ℕ) (act : Act) where
      abbrev act_row : ℕ → ActRow
      act_row n = record { case = k; deadline = n; number = number; act = act }

      by_found : (o : Option DeadlineView) → slice_get (deadlines k h) i ≡ o → slice_get (deadlines k (c ∷ h)) i ≡ deadline_after o changes added (act_row (suc i))
      by_found (Some d) e = still_there k i d e ∙ (let same : 1 + i ≡ suc i = omega arith in ap (λ n. Some (with_acts (acts_of_deadline k n added) d)) same)
      by_found None e =
          let same : 1 + i ≡ suc i = omega arith in
          let past : length (olds k) ≤ i = omega (arith, past_all (deadlines k h) i e, length-deadlines_from k 1 (act_rows h) (olds k)) in
          new_there k i past
          ∙ ap (λ n. option_map (deadline_with (acts_of_deadline k n added)) (find (is_deadline k n) news)) same
          ∙ ap (option_map (deadline_with (acts_of_deadline k (suc i) added))) (found (suc i))
          ∙ with_none (deadline_added k (suc i) changes) (acts_of_deadline k (suc i) added)

    after_at : (n number : ℕ) (act : Act) → deadline_at (deadlines k (c ∷ h)) n ≡ deadline_after (deadline_at (deadlines k h) n) changes added (record { case = k; deadline = n; number = number; act = act })
    after_at zero number act =
        sym (ap (λ o. option_map (with_acts (acts_of_deadline k 0 added)) (option_map (deadline_with []) o)) (sym (found 0) ∙ none_new k 0 j (count + 1) made (inr (omega arith))))
    after_at (suc i) number act = by_found i number act (slice_get (deadlines k h) i) refl

  pub is_after : (row : ActRow) → deadline_at (deadlines row.case (c ∷ h)) row.deadline ≡ deadline_after (deadline_at (deadlines row.case h) row.deadline) changes added row
  is_after row = after_at row.case row.deadline row.number row.act

-- a deadline of a history has lawful acts
pub lawful_at : (court : CourtSettings) (h : History) (k n : ℕ) (d : DeadlineView) → IsHistory court h → deadline_at (deadlines k h) n ≡ Some d → AreActs (zone_of court) d.acts
lawful_at court h k zero d is there = absurd (cc)
lawful_at court h k (suc i) d is there = one_of_all (λ (x : DeadlineView). AreActs (zone_of court) x.acts) (deadlines k h) i d (lawful_deadlines court h (within_limits court h is) k) there
