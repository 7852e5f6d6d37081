-- The ends that the tables of a docket have, those of one case among them.
use Rattle.std.proofs.Common.{◌≡◌, ◌∙◌, ◌≤◌, ◌==◌, ◌+◌, ℕ, suc, Bool, true, false, cond, List, [], ◌∷◌, ◌++◌, map, Option, Some, None, refl, sym, ap, ap₂, subst, arith}
use Rattle.std.specs.List.{AllByRecursion, flat_map}
use Rattle.std.proofs.lemmas.Bool.Decides.{nat_tests}
use Rattle.std.proofs.lemmas.List.Elements.{filter-append}
use Rattle.sqlite_trees.proofs.ListLemmas.{all-filter}
use Rattle.court_days.specs.Calendar.{Entered}
use Rattle.court_days.specs.Court.{CourtSettings, zone_of}
use Rattle.court_rules.specs.Standings.{standing}
use Rattle.docket_decisions.specs.EndRows.{AreRowsFrom, end_running, end_row, row_of_deadline, calendar_in, end_rows, ends_running, end_rows_from}
use Rattle.docket_history.specs.Histories.{acts_of_deadline, deadlines_of_case, deadlines_from}
use Rattle.docket_decisions.specs.Tables.{Tables}
use Rattle.docket_decisions.specs.declared.end_row.StoredEnd.{StoredEnd}
use Rattle.docket_decisions.specs.declared.end_row.EndTime.{EndTime}
use Rattle.docket_history.specs.declared.row.ActRow.{ActRow}
use Rattle.docket_history.specs.declared.row.DeadlineRow.{DeadlineRow}
use Rattle.docket_tables.specs.Contents.{AreStored, ends_in_case, ends_of}
use Rattle.docket_orderly.specs.Orderly.{IsOrderly, RunsFrom}

-- the ends of a case among all

module _ (court : CourtSettings) (entered : Entered) (acts : List ActRow) where
  abbrev rows_by : List DeadlineRow → List StoredEnd
  rows_by ds = flat_map (row_of_deadline (zone_of court) entered acts) ds

  own_row : (k c n : ℕ) (end : Option EndTime) (b : Bool) → (c == k) ≡ b → ends_of k (end_row c n end) ≡ cond b (end_row c n end) []
  own_row k c n None true e = refl
  own_row k c n None false e = refl
  own_row k c n (Some end) true e = ap (λ b. cond b (record { case = c; deadline = n; end = end } ∷ []) []) e
  own_row k c n (Some end) false e = ap (λ b. cond b (record { case = c; deadline = n; end = end } ∷ []) []) e

  own_rows : (k : ℕ) (ds : List DeadlineRow) → ends_of k (rows_by ds) ≡ rows_by (deadlines_of_case k ds)
  own_rows k [] = refl
  own_rows k (d ∷ ds) =
      filter-append (λ (row : StoredEnd). row.case == k) (row_of_deadline (zone_of court) entered acts d) (rows_by ds)
      ∙ at (d.case == k) refl (own_rows k ds)
    where
      at : (b : Bool) → (d.case == k) ≡ b → ends_of k (rows_by ds) ≡ rows_by (deadlines_of_case k ds)
          → ends_of k (row_of_deadline (zone_of court) entered acts d) ++ ends_of k (rows_by ds) ≡ rows_by (cond (d.case == k) (d ∷ deadlines_of_case k ds) (deadlines_of_case k ds))
      at true e more =
          ap₂ (λ xs ys. xs ++ ys) (own_row k d.case d.number _ true e) more
          ∙ ap (λ b. rows_by (cond b (d ∷ deadlines_of_case k ds) (deadlines_of_case k ds))) (sym e)
      at false e more =
          ap₂ (λ xs ys. xs ++ ys) (own_row k d.case d.number _ false e) more
          ∙ ap (λ b. rows_by (cond b (d ∷ deadlines_of_case k ds) (deadlines_of_case k ds))) (sym e)

  cases_same : (k : ℕ) (ds : List DeadlineRow) → AllByRecursion (λ (d : DeadlineRow). d.case ≡ k) (deadlines_of_case k ds)
  cases_same k [] = tt
  cases_same k (d ∷ ds) = at (d.case == k) refl (cases_same k ds)
    where
      at : (b : Bool) → (d.case == k) ≡ b → AllByRecursion (λ (x : DeadlineRow). x.case ≡ k) (deadlines_of_case k ds) → AllByRecursion (λ (x : DeadlineRow). x.case ≡ k) (cond b (d ∷ deadlines_of_case k ds) (deadlines_of_case k ds))
      at true e more = (grind (arith, nat_tests, e), more)
      at false e more = more

  numbered_rows : (k n : ℕ) (ds : List DeadlineRow) → AllByRecursion (λ (d : DeadlineRow). d.case ≡ k) ds → RunsFrom n (map (λ (d : DeadlineRow). d.number) ds)
      → rows_by ds ≡ end_rows_from k n (ends_running (zone_of court) entered (deadlines_from k n acts ds))
  numbered_rows k n [] same runs = refl
  numbered_rows k n (d ∷ ds) same runs =
      let next : suc n ≡ n + 1 = omega arith in
      ap₂ (λ xs ys. xs ++ ys) (ap₂ (λ c m. end_row c m (end_running (zone_of court) (standing (zone_of court) entered (acts_of_deadline c m acts)))) same.0 runs.0)
      (numbered_rows k (n + 1) ds same.1 (subst (λ m. RunsFrom m (map (λ (x : DeadlineRow). x.number) ds)) next runs.1))

pub ends_of_all : (court : CourtSettings) (t : Tables) (k : ℕ) → IsOrderly court t → ends_of k (end_rows court t) ≡ ends_in_case court (calendar_in t) t k
unfolding end_rows
ends_of_all court t k orderly =
    own_rows court (calendar_in t) t.acts k t.deadlines
    ∙ numbered_rows court (calendar_in t) t.acts k 1 (deadlines_of_case k t.deadlines) (cases_same court (calendar_in t) t.acts k t.deadlines) (orderly.deadlines_run k)

rows_higher : (k n m : ℕ) (rows : List StoredEnd) → m ≤ n → AreRowsFrom k n rows → AreRowsFrom k m rows
rows_higher k n m [] low are = tt
rows_higher k n m (row ∷ rows) low are = (are.0, omega (arith, low, are.1), are.2)

rows_from : (k n : ℕ) (ends : List (Option EndTime)) → AreRowsFrom k n (end_rows_from k n ends)
rows_from k n [] = tt
rows_from k n (None ∷ ends) = rows_higher k (n + 1) n (end_rows_from k (n + 1) ends) (omega arith) (rows_from k (n + 1) ends)
rows_from k n (Some end ∷ ends) = (refl, omega arith, rows_from k (n + 1) ends)

-- the ends of an orderly docket are stored so that a question shows those of a case
pub all_stored : (court : CourtSettings) (t : Tables) → IsOrderly court t → (k : ℕ) → AreStored k (end_rows court t)
unfolding end_rows
all_stored court t orderly k = record {
  fit = all-filter _ _ (end_rows court t) orderly.ends;
  rows = subst (AreRowsFrom k 1) (sym (ends_of_all court t k orderly)) (rows_from k 1 (ends_running (zone_of court) (calendar_in t) (deadlines_from k 1 t.acts (deadlines_of_case k t.deadlines))));
}
