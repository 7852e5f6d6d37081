-- Each deadline that falls due has its case.
use Rattle.std.proofs.Common.{◌≡◌, ℕ, ◌<◌, ◌≤◌, ◌⊎◌, inl, inr, suc, zero, List, [], ◌∷◌, length, Some, None, sym, ap, subst, ◌∙◌, arith, unwrap_or}
use Rattle.std.specs.List.{AllByRecursion}
use Rattle.std.specs.Prelude.{get_or}
use Rattle.std.proofs.lemmas.List.Elements.{All-from_recursion, All-get_or}
use Rattle.std.proofs.lemmas.List.Sorted.{All-permutation}
use Rattle.std.proofs.lemmas.Option.{none-some, slice_get-get_or}
use Rattle.sqlite_trees.proofs.ListLemmas.{all-filter, all-flat_map, all_weaker}
use Rattle.court_days.specs.Court.{CourtSettings}
use Rattle.court_rules.specs.declared.act.Standing.{Standing}
use Rattle.court_rules.specs.declared.act.Standing.TheVariants.{Running, Suspended, Awaiting, Done, Vacated}
use Rattle.docket_history.specs.Histories.{History, case_rows, deadlines_of_case}
use Rattle.docket_decisions.specs.Outcomes.{IsHistory}
use Rattle.docket_history.specs.Records.{case_at}
use Rattle.docket_decisions.specs.Tables.{rows_of}
use Rattle.docket_history.specs.declared.record.DueRow.{DueRow}
use Rattle.docket_history.specs.declared.row.CaseRow.{CaseRow}
use Rattle.docket_history.specs.declared.row.DeadlineRow.{DeadlineRow}
use Rattle.docket_decisions.specs.EndRows.{calendar_in}
use Rattle.docket_orderly.proofs.DeadlineLemmas.{no_deadlines}
use Rattle.docket_orderly.proofs.EndLemmas.{of_each}
use Rattle.docket_calendar.specs.Calendar.{calendar_rows, due_of, due_within, row_where, running}
use Rattle.docket_calendar.proofs.HistoryLemmas.{is_calendar}
use Rattle.docket_questions.specs.Kept.{HaveCases, IsCase, case_of, no_case}

in_range : (n k : ℕ) → ((1 ≤ k) × (k ≤ n)) ⊎ ((k < 1) ⊎ (n < k))
in_range n zero = inr (inl (omega arith))
in_range zero (suc k) = inr (inr (omega arith))
in_range (suc n) (suc zero) = inl (omega arith, omega arith)
in_range (suc n) (suc (suc k)) = more (in_range n (suc k))
  where
    more : ((1 ≤ suc k) × (suc k ≤ n)) ⊎ ((suc k < 1) ⊎ (n < suc k)) → ((1 ≤ suc (suc k)) × (suc (suc k) ≤ suc n)) ⊎ ((suc (suc k) < 1) ⊎ (suc n < suc (suc k)))
    more (inl h) = inl (omega arith, omega (arith, h.1))
    more (inr (inl h)) = absurd (omega (arith, h))
    more (inr (inr h)) = inr (inr (omega (arith, h)))

all_so : {X : Type 0} (P : Type 0) → P → (xs : List X) → AllByRecursion (λ (x : X). P) xs
all_so P p [] = tt
all_so P p (x ∷ xs) = (p, all_so P p xs)

module _ (court : CourtSettings) (h : History) (is : IsHistory court h) where
  of_case : (k : ℕ) → AllByRecursion (λ (d : DeadlineRow). IsCase (case_rows h) k) (deadlines_of_case k (rows_of court h).deadlines)
  of_case k = by (in_range (length (case_rows h)) k)
    where
      by : ((1 ≤ k) × (k ≤ length (case_rows h))) ⊎ ((k < 1) ⊎ (length (case_rows h) < k)) → AllByRecursion (λ (d : DeadlineRow). IsCase (case_rows h) k) (deadlines_of_case k (rows_of court h).deadlines)
      by (inl within) = all_so (IsCase (case_rows h) k) within (deadlines_of_case k (rows_of court h).deadlines)
      by (inr out) = subst (λ (ds : List DeadlineRow). AllByRecursion (λ (d : DeadlineRow). IsCase (case_rows h) k) ds) (sym (no_deadlines court h is k out)) tt

  row_cased : (d : DeadlineRow) (s : Standing) → IsCase (case_rows h) d.case → AllByRecursion (λ (due : DueRow). IsCase (case_rows h) due.case) (row_where court (calendar_in (rows_of court h)) d s)
  row_cased d (Running end) cased = (cased, tt)
  row_cased d Suspended cased = tt
  row_cased d Awaiting cased = tt
  row_cased d Done cased = tt
  row_cased d Vacated cased = tt

  -- each deadline of the calendar of some days has its case
  pub cased : (from to : ℕ) → HaveCases h (calendar_rows court h from to)
  cased from to =
      let t = rows_of court h in
      let P : DueRow → Type 0 = λ due. IsCase (case_rows h) due.case in
      All-permutation P (due_within court from to t) (calendar_rows court h from to) (is_calendar court h from to).same
      (All-from_recursion P (due_within court from to t)
      (all-filter P _ (running court t)
      (all-flat_map P (due_of court (calendar_in t) t.acts) t.deadlines
      (all_weaker _ (λ (d : DeadlineRow). AllByRecursion P (due_of court (calendar_in t) t.acts d)) (λ d own. row_cased d _ own) t.deadlines
      (of_each (λ k (d : DeadlineRow). IsCase (case_rows h) k) t.deadlines of_case)))))

-- a case of a number is found
case_found : (rows : List CaseRow) (number : ℕ) → IsCase rows number → (case : CaseRow) × (case_at rows number ≡ Some case)
case_found [] zero within = absurd (omega (arith, within.0))
case_found [] (suc n) within = absurd (omega (arith, within.1))
case_found (row ∷ rows) zero within = absurd (omega (arith, within.0))
case_found (row ∷ rows) (suc n) within = (get_or (row ∷ rows) n row, slice_get-get_or (row ∷ rows) n row (omega (arith, within.1)))

-- so it cannot be missing
pub case_missed : (rows : List CaseRow) (number : ℕ) → IsCase rows number → None ≡ case_at rows number → ⊥
case_missed rows number is missed = let found = case_found rows number is in none-some found.0 (missed ∙ found.1)

-- and what is found is that case
pub case_is : (rows : List CaseRow) (number : ℕ) (case : CaseRow) → Some case ≡ case_at rows number → case ≡ case_of rows number
case_is rows number case found = ap (λ o. unwrap_or o no_case) found

-- the deadline at a place has its case
pub case_at_place : (h : History) (dues : List DueRow) (place : ℕ) (due : DueRow) → place < length dues → due ≡ get_or dues place due → HaveCases h dues → IsCase (case_rows h) due.case
case_at_place h dues place due within is have =
    subst (λ (d : DueRow). IsCase (case_rows h) d.case) (sym is) (All-get_or (λ (d : DueRow). IsCase (case_rows h) d.case) dues place due within have)
