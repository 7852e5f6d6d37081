-- The ends of cases brought up to date, one case after another.
use Rattle.std.proofs.Common.{◌≡◌, ◌∙◌, ◌<◌, ◌≢◌, ◌==◌, ◌&&◌, ◌+◌, ℕ, zero, suc, not, Bool, true, false, cond, List, [], ◌∷◌, ◌++◌, filter, Option, Some, None, IsPermutation, refl, sym, ap, subst, arith, append-nil, Result, IfOk}
use Rattle.std.specs.List.{AllByRecursion}
use Rattle.std.proofs.lemmas.Bool.Decides.{nat_tests}
use Rattle.std.proofs.lemmas.List.Elements.{filter-append}
use Rattle.std.proofs.lemmas.List.Sorted.{IsPermutation-filter_both}
use Rattle.court_days.specs.Calendar.{Entered}
use Rattle.court_days.specs.Court.{CourtSettings, zone_of}
use Rattle.docket_decisions.specs.EndRows.{IsElsewhere, end_rows_from, ends_running, all_changed_ends}
use Rattle.docket_history.specs.Histories.{deadlines_of_case, deadlines_from}
use Rattle.docket_decisions.specs.declared.end_row.EndChange.{EndChange}
use Rattle.docket_history.specs.declared.view.DeadlineView.{DeadlineView}
use Rattle.sqlite.specs.State.{State, HasCleanDisk}
use Rattle.docket_tables.specs.Contents.{rows_with, AreStored, ends_in_case, ends_of}
use Rattle.docket_tables.specs.Stands.{Sees, Inside}
use Rattle.docket_tables.specs.declared.fault.ReadFault.{ReadFault}
use Rattle.docket_tables.proofs.EndLemmas.{sees_permuted}
use Rattle.std.proofs.lemmas.Result.{IfOk-weaker}
use Rattle.docket_decisions.specs.Tables.{Tables}
use Rattle.docket_decisions.specs.declared.end_row.StoredEnd.{StoredEnd}
use Rattle.docket_decisions.specs.declared.end_row.EndTime.{EndTime}
use Rattle.docket_applying.specs.Settling.{settled_case, settled_cases, RunsOnlyWhereStored}
use Rattle.docket_tables.proofs.CaseActs.{passing_both}

abbrev pub others_of : ℕ → List StoredEnd → List StoredEnd
others_of k ends = filter (λ row. not (row.case == k)) ends

pub others_apart : (k : ℕ) (ends : List StoredEnd) → AllByRecursion (IsElsewhere k 1) (others_of k ends)
others_apart k [] = tt
others_apart k (row ∷ ends) = at (row.case == k) refl (others_apart k ends)
  where
    at : (b : Bool) → (row.case == k) ≡ b → AllByRecursion (IsElsewhere k 1) (others_of k ends) → AllByRecursion (IsElsewhere k 1) (cond (not b) (row ∷ others_of k ends) (others_of k ends))
    at true e more = more
    at false e more = ((λ m low. ap (λ b. b && row.deadline == m) e), more)

not_not : (b : Bool) → b ≡ not (not b)
not_not true = refl
not_not false = refl

pub parted : (k : ℕ) (ends : List StoredEnd) → IsPermutation ends (others_of k ends ++ ends_of k ends)
parted k ends = IsPermutation-filter_both (λ (row : StoredEnd). not (row.case == k)) (λ row. row.case == k) (λ row. not_not (row.case == k)) ends

-- the ends of another case are as they were

all_none : {X : Type 0} (p : X → Bool) (xs : List X) → ((x : X) → p x ≡ false) → filter p xs ≡ []
all_none p [] none = refl
all_none p (x ∷ xs) none = ap (λ b. cond b (x ∷ filter p xs) (filter p xs)) (none x) ∙ all_none p xs none

all_same : {X : Type 0} (p q : X → Bool) (xs : List X) → ((x : X) → p x ≡ q x) → filter p xs ≡ filter q xs
all_same p q xs same = ap (λ f. filter f xs) (λ i x. same x i)

pub from_case : (j k n : ℕ) (ends : List (Option EndTime)) → j ≢ k → ends_of j (end_rows_from k n ends) ≡ []
from_case j k n [] other = refl
from_case j k n (None ∷ ends) other = from_case j k (n + 1) ends other
from_case j k n (Some end ∷ ends) other =
    let off : (k == j) ≡ false = grind (arith, nat_tests, other) in
    ap (λ b. cond b (record { case = k; deadline = n; end = end } ∷ ends_of j (end_rows_from k (n + 1) ends)) (ends_of j (end_rows_from k (n + 1) ends))) off ∙ from_case j k (n + 1) ends other

module _ (court : CourtSettings) (entered : Entered) (t : Tables) where
  pub settled_other : (j k : ℕ) (ends : List StoredEnd) → j ≢ k → ends_of j (settled_case court entered t k ends) ≡ ends_of j ends
  settled_other j k ends other =
      filter-append (λ (row : StoredEnd). row.case == j) (others_of k ends) (ends_in_case court entered t k)
      ∙ ap (λ xs. ends_of j (others_of k ends) ++ xs) (from_case j k 1 (ends_running (zone_of court) entered (deadlines_from k 1 t.acts (deadlines_of_case k t.deadlines))) other) ∙ append-nil _
      ∙ passing_both (λ (row : StoredEnd). not (row.case == k)) (λ row. row.case == j) ends
      ∙ all_same _ _ ends (λ (row : StoredEnd). both row.case)
    where
      both : (c : ℕ) → (not (c == k) && c == j) ≡ (c == j)
      both c = at (c == j) refl
        where
          at : (b : Bool) → (c == j) ≡ b → (not (c == k) && c == j) ≡ (c == j)
          at true e = let off : (c == k) ≡ false = grind (arith, nat_tests, e, other) in ap (λ b. not b && c == j) off
          at false e = elim (c == k) as (λ b. (not b && c == j) ≡ (c == j)) [ true ↦ sym e | false ↦ refl ]

  pub settled_before : (j n : ℕ) (ends : List StoredEnd) → n < j → ends_of j (settled_cases court entered t n ends) ≡ ends_of j ends
  settled_before j zero ends past = refl
  settled_before j (suc n) ends past =
      let other : j ≢ n + 1 = λ e. omega (arith, e, past) in
      settled_other j (n + 1) (settled_cases court entered t n ends) other ∙ settled_before j n ends (omega (arith, past))

  pub still_stored : (n : ℕ) (ends : List StoredEnd) → ((k : ℕ) → AreStored k ends) → AreStored (n + 1) (settled_cases court entered t n ends)
  still_stored n ends are =
      let same = settled_before (n + 1) n ends (omega arith) in
      record {
        fit = subst (λ rows. AllByRecursion Rattle.docket_columns.specs.Fits.IsEndRow rows) (sym same) (are (n + 1)).fit;
        rows = subst (λ rows. Rattle.docket_decisions.specs.EndRows.AreRowsFrom (n + 1) 1 rows) (sym same) (are (n + 1)).rows;
      }

  pub still_runs_only : (n : ℕ) (ends : List StoredEnd) → ((k : ℕ) → RunsOnlyWhereStored court t ends k) → RunsOnlyWhereStored court t (settled_cases court entered t n ends) (n + 1)
  still_runs_only n ends only none = only (n + 1) (sym (settled_before (n + 1) n ends (omega arith)) ∙ none)

  -- a case without a stored end stands as it is
  pub settled_bare : (k : ℕ) (ends : List StoredEnd) → RunsOnlyWhereStored court t ends k → ends_of k ends ≡ [] → IsPermutation ends (settled_case court entered t k ends)
  settled_bare k ends only none = subst (λ own. IsPermutation ends (others_of k ends ++ own)) (none ∙ sym (only none entered)) (parted k ends)

-- the changes of the ends of case k, in a database that has those of all cases
module _ (court : CourtSettings) (entered : Entered) (t : Tables) (k : ℕ) (ends : List StoredEnd) (are : AreStored k ends) (read new : State) (result : Result (Unit {0}) ReadFault) (changes : List EndChange) (stored : List StoredEnd) (deadlines : List DeadlineView)
    (step : Inside read new (rows_with court t (others_of k ends ++ ends_of k ends)) (rows_with court t (all_changed_ends changes (others_of k ends ++ ends_of k ends))) result (λ _. Unit {0}))
    (made : IsPermutation (all_changed_ends changes (others_of k ends ++ stored)) (others_of k ends ++ end_rows_from k 1 (ends_running (zone_of court) entered deadlines))) where
  begun : Sees read (rows_with court t ends) → Sees read (rows_with court t (others_of k ends ++ ends_of k ends))
  begun sees = sees_permuted read court t ends (others_of k ends ++ ends_of k ends) (parted k ends) sees

  pub settling_ends : deadlines ≡ deadlines_from k 1 t.acts (deadlines_of_case k t.deadlines) → stored ≡ ends_of k ends → HasCleanDisk new → Sees read (rows_with court t ends)
      → IfOk result (λ _. Sees new (rows_with court t (settled_case court entered t k ends)) × Unit {0})
  settling_ends shown are_stored clean sees =
      let parts = others_of k ends ++ ends_of k ends in
      let same : IsPermutation (all_changed_ends changes parts) (settled_case court entered t k ends) =
      subst (λ ds. IsPermutation (all_changed_ends changes parts) (others_of k ends ++ end_rows_from k 1 (ends_running (zone_of court) entered ds))) shown
      (subst (λ xs. IsPermutation (all_changed_ends changes (others_of k ends ++ xs)) (others_of k ends ++ end_rows_from k 1 (ends_running (zone_of court) entered deadlines))) are_stored made) in
      IfOk-weaker result _ _ (λ u h. (sees_permuted new court t (all_changed_ends changes parts) (settled_case court entered t k ends) same h.0, tt)) ((step (λ _. begun sees)).1 clean)
