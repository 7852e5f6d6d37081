-- The ends of all cases, case by case.
use Rattle.std.proofs.Common.{◌≡◌, ◌∙◌, ◌≤◌, ◌<◌, ◌≢◌, ◌==◌, inl, inr, ◌+◌, ℕ, zero, suc, Bool, true, false, cond, not, nat_lt, List, [], ◌∷◌, ◌++◌, Option, Some, None, IsPermutation, refl, sym, ap, ap₂, subst, arith}
use Rattle.std.proofs.lemmas.Bool.Decides.{nat_tests}
use Rattle.std.proofs.lemmas.List.Elements.{filter-append}
use Rattle.std.proofs.lemmas.List.Sorted.{IsPermutation-refl, IsPermutation-trans, IsPermutation-sym, IsPermutation-cons, IsPermutation-middle}
use Rattle.court_days.specs.Calendar.{Entered}
use Rattle.court_days.specs.Court.{CourtSettings, zone_of}
use Rattle.docket_decisions.specs.EndRows.{calendar_in, end_rows, ends_running, end_rows_from}
use Rattle.docket_history.specs.Histories.{deadlines_of_case, deadlines_from}
use Rattle.docket_decisions.specs.Tables.{Tables}
use Rattle.docket_decisions.specs.declared.end_row.StoredEnd.{StoredEnd}
use Rattle.docket_decisions.specs.declared.end_row.EndTime.{EndTime}
use Rattle.docket_tables.specs.Contents.{ends_in_case, ends_of}
use Rattle.docket_orderly.specs.Orderly.{IsOrderly}
use Rattle.docket_tables.proofs.StoredLemmas.{all_stored, ends_of_all}
use Rattle.docket_applying.specs.Settling.{AreUntouched, IsUpdate, MayUpdate, settled_case, settled_cases, updated_ends}
use Rattle.docket_decisions.specs.declared.moving.EndUpdate.{EndUpdate}
use Rattle.docket_decisions.specs.declared.moving.EndUpdate.TheVariants.{Moves, Calendar}
use Rattle.docket_applying.proofs.SettlingLemmas.{others_of, settled_other, settled_before}

-- lists of rows that have the same rows of each case are the same but for the order

abbrev IsSplit : ℕ → StoredEnd → List StoredEnd → List StoredEnd → Type 0
IsSplit c x more ys = (front : List StoredEnd) × (back : List StoredEnd) × (ys ≡ front ++ x ∷ back) × (ends_of c front ≡ []) × (ends_of c back ≡ more)

split : (c : ℕ) (x : StoredEnd) (more ys : List StoredEnd) → ends_of c ys ≡ x ∷ more → IsSplit c x more ys
split c x more [] e = absurd (let no = e in cc)
split c x more (y ∷ ys) e = at (y.case == c) refl e (λ f. split c x more ys f)
  where
    at : (b : Bool) → (y.case == c) ≡ b → cond (y.case == c) (y ∷ ends_of c ys) (ends_of c ys) ≡ x ∷ more → (ends_of c ys ≡ x ∷ more → IsSplit c x more ys) → IsSplit c x more (y ∷ ys)
    at true is e next =
        let both : y ∷ ends_of c ys ≡ x ∷ more = ap (λ b. cond b (y ∷ ends_of c ys) (ends_of c ys)) (sym is) ∙ e in
        let head : y ≡ x = (let it = both in cc) in
        let tail : ends_of c ys ≡ more = (let it = both in cc) in
        ([], ys, ap (λ z. z ∷ ys) head, refl, tail)
    at false is e next =
        let rest : ends_of c ys ≡ x ∷ more = ap (λ b. cond b (y ∷ ends_of c ys) (ends_of c ys)) (sym is) ∙ e in
        let it = next rest in
        (y ∷ it.0, it.1, ap (λ zs. y ∷ zs) it.2, ap (λ b. cond b (y ∷ ends_of c it.0) (ends_of c it.0)) is ∙ it.3, it.4)

none_of_all : (ys : List StoredEnd) → ((c : ℕ) → ends_of c ys ≡ []) → ys ≡ []
none_of_all [] none = refl
none_of_all (y ∷ ys) none =
    let here : (y.case == y.case) ≡ true = grind (arith, nat_tests) in
    absurd (let no = ap (λ b. cond b (y ∷ ends_of y.case ys) (ends_of y.case ys)) (sym here) ∙ none y.case in cc)

pub same_by_case : (xs ys : List StoredEnd) → ((c : ℕ) → ends_of c xs ≡ ends_of c ys) → IsPermutation xs ys
same_by_case [] ys same = subst (IsPermutation []) (sym (none_of_all ys (λ c. sym (same c)))) (IsPermutation-refl [])
same_by_case (x ∷ xs) ys same =
    let here : (x.case == x.case) ≡ true = grind (arith, nat_tests) in
    let it = split x.case x (ends_of x.case xs) ys (sym (same x.case) ∙ ap (λ b. cond b (x ∷ ends_of x.case xs) (ends_of x.case xs)) here) in
    let rest = same_by_case xs (it.0 ++ it.1) (λ c. others c it.0 it.1 it.2 it.3 it.4) in
    IsPermutation-trans _ _ _ (IsPermutation-cons x _ _ rest)
    (subst (IsPermutation (x ∷ (it.0 ++ it.1))) (sym it.2) (IsPermutation-sym _ _ (IsPermutation-middle it.0 x it.1)))
  where
    others : (c : ℕ) (front back : List StoredEnd) → ys ≡ front ++ x ∷ back → ends_of x.case front ≡ [] → ends_of x.case back ≡ ends_of x.case xs → ends_of c xs ≡ ends_of c (front ++ back)
    others c front back is none more = at (x.case == c) refl
      where
        parts : ends_of c (x ∷ xs) ≡ ends_of c front ++ ends_of c (x ∷ back)
        parts = same c ∙ ap (ends_of c) is ∙ filter-append (λ (row : StoredEnd). row.case == c) front (x ∷ back)

        joined : ends_of c (front ++ back) ≡ ends_of c front ++ ends_of c back
        joined = filter-append (λ (row : StoredEnd). row.case == c) front back

        at : (b : Bool) → (x.case == c) ≡ b → ends_of c xs ≡ ends_of c (front ++ back)
        at true e =
            let is_case : x.case ≡ c = grind (arith, nat_tests, e) in
            sym (subst (λ d. ends_of d back ≡ ends_of d xs) is_case more) ∙ ap (λ zs. zs ++ ends_of c back) (sym (subst (λ d. ends_of d front ≡ []) is_case none)) ∙ sym joined
        at false e =
            sym (ap (λ b. cond b (x ∷ ends_of c xs) (ends_of c xs)) e) ∙ parts ∙ ap (λ b. ends_of c front ++ cond b (x ∷ ends_of c back) (ends_of c back)) e ∙ sym joined

-- a case that was brought up to date

module _ (court : CourtSettings) (entered : Entered) (t : Tables) where
  own_kept : (k n : ℕ) (ends : List (Option EndTime)) → ends_of k (end_rows_from k n ends) ≡ end_rows_from k n ends
  own_kept k n [] = refl
  own_kept k n (None ∷ ends) = own_kept k (n + 1) ends
  own_kept k n (Some end ∷ ends) =
      let here : (k == k) ≡ true = grind (arith, nat_tests) in
      ap (λ b. cond b (record { case = k; deadline = n; end = end } ∷ ends_of k (end_rows_from k (n + 1) ends)) (ends_of k (end_rows_from k (n + 1) ends))) here
      ∙ ap (λ xs. record { case = k; deadline = n; end = end } ∷ xs) (own_kept k (n + 1) ends)

  no_own : (k : ℕ) (ends : List StoredEnd) → ends_of k (others_of k ends) ≡ []
  no_own k [] = refl
  no_own k (row ∷ ends) = at (row.case == k) refl (no_own k ends)
    where
      at : (b : Bool) → (row.case == k) ≡ b → ends_of k (others_of k ends) ≡ [] → ends_of k (cond (not b) (row ∷ others_of k ends) (others_of k ends)) ≡ []
      at true e more = more
      at false e more = ap (λ b. cond b (row ∷ ends_of k (others_of k ends)) (ends_of k (others_of k ends))) e ∙ more

  settled_here : (k : ℕ) (ends : List StoredEnd) → ends_of k (settled_case court entered t k ends) ≡ ends_in_case court entered t k
  settled_here k ends =
      filter-append (λ (row : StoredEnd). row.case == k) (others_of k ends) (ends_in_case court entered t k)
      ∙ ap₂ (λ xs ys. xs ++ ys) (no_own k ends) (own_kept k 1 (ends_running (zone_of court) entered (deadlines_from k 1 t.acts (deadlines_of_case k t.deadlines))))

  settled_among : (j n : ℕ) (ends : List StoredEnd) → 1 ≤ j → j ≤ n → ends_of j (settled_cases court entered t n ends) ≡ ends_in_case court entered t j
  settled_among j zero ends low high = absurd (omega (arith, low, high))
  settled_among j (suc n) ends low high = at (j == n + 1) refl (λ h. settled_among j n ends low h)
    where
      at : (b : Bool) → (j == n + 1) ≡ b → (j ≤ n → ends_of j (settled_cases court entered t n ends) ≡ ends_in_case court entered t j)
          → ends_of j (settled_cases court entered t (suc n) ends) ≡ ends_in_case court entered t j
      at true e next =
          let is : j ≡ n + 1 = grind (arith, nat_tests, e) in
          subst (λ k. ends_of k (settled_case court entered t (n + 1) (settled_cases court entered t n ends)) ≡ ends_in_case court entered t k) (sym is)
          (settled_here (n + 1) (settled_cases court entered t n ends))
      at false e next =
          let other : j ≢ n + 1 = λ same. let no : (j == n + 1) ≡ true = grind (arith, nat_tests, same) in (let a = no in let b = e in cc) in
          settled_other court entered t j (n + 1) (settled_cases court entered t n ends) other ∙ next (omega (arith, high, other))

  settled_none : (n : ℕ) (ends : List StoredEnd) → ends_of 0 (settled_cases court entered t n ends) ≡ ends_of 0 ends
  settled_none zero ends = refl
  settled_none (suc n) ends =
      let other : 0 ≢ n + 1 = λ e. omega (arith, e) in
      settled_other court entered t 0 (n + 1) (settled_cases court entered t n ends) other ∙ settled_none n ends

-- where all cases whose ends may have moved were brought up to date, the ends are those of the tables
settled_all : (court : CourtSettings) (t next : Tables) (n : ℕ) → IsOrderly court next → AreUntouched court n t next
    → IsPermutation (settled_cases court (calendar_in next) next n (end_rows court t)) (end_rows court next)
settled_all court t next n orderly untouched = same_by_case _ _ each
  where
    each : (j : ℕ) → ends_of j (settled_cases court (calendar_in next) next n (end_rows court t)) ≡ ends_of j (end_rows court next)
    each zero = settled_none court (calendar_in next) next n (end_rows court t) ∙ untouched 0 (inl (omega arith))
    each (suc i) = at (nat_lt n (suc i)) refl
      where
        at : (b : Bool) → nat_lt n (suc i) ≡ b → ends_of (suc i) (settled_cases court (calendar_in next) next n (end_rows court t)) ≡ ends_of (suc i) (end_rows court next)
        at true past =
            let above : n < suc i = grind (arith, nat_tests, past) in
            settled_before court (calendar_in next) next (suc i) n (end_rows court t) above ∙ untouched (suc i) (inr above)
        at false among =
            settled_among court (calendar_in next) next (suc i) n (end_rows court t) (omega arith) (grind (arith, nat_tests, among)) ∙ sym (ends_of_all court next (suc i) orderly)

-- what is done about the ends may be done, and leaves those of the tables

pub may_update : (court : CourtSettings) (update : EndUpdate) (t next : Tables) → IsUpdate court update t next → MayUpdate court update next (end_rows court t)
may_update court (Moves moves) t next is = tt
may_update court (Calendar cases) t next is = (is.next_orderly, all_stored court t is.orderly, is.none_begins)

pub updated : (court : CourtSettings) (update : EndUpdate) (t next : Tables) → IsUpdate court update t next → IsPermutation (updated_ends court update next (end_rows court t)) (end_rows court next)
updated court (Moves moves) t next is = is
updated court (Calendar cases) t next is = settled_all court t next cases is.next_orderly is.untouched
