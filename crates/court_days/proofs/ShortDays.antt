-- Short days that are kept in ascending order.
use Rattle.std.proofs.Common.{◌≡◌, ℕ, zero, suc, ◌+◌, ◌-◌, ◌<◌, ◌≤◌, ◌≢◌, ◌⊎◌, Bool, true, false, cond, List, [], ◌∷◌, length, get_or, Some, None, is_some, Result, Ok, Err, IfOk, IfErr, inl, inr, refl, sym, ap, ◌∙◌, arith, subst}
use Rattle.std.proofs.lemmas.Bool.{cases_lt}
use Rattle.std.proofs.lemmas.Bool.Decides.{nat_tests}
use Rattle.std.proofs.lemmas.Cmp.{ranked}
use Rattle.std.proofs.lemmas.List.Edits.{length-insert, get_or-insert_below, get_or-insert_at, get_or-insert_above}
use Rattle.std.proofs.lemmas.List.Sorted.{IsNonDecreasingBy-from_default}
use Rattle.std.specs.Cmp.{nat_cmp_total, Equal-is, tied_itself}
use Rattle.std.specs.FinMap as map
use Rattle.std.specs.List as list
use Rattle.std.specs.List.Sorted.{IsNonDecreasingBy, IsBinarySearchResult, IsSearchInRange}
use Rattle.std.specs.Ordering.{nat_cmp, eq_by_cmp, is_eq, ordering_index}
use Rattle.court_days.specs.SortedClosings.{day_at, IsSortedByDay, IsAt, IsGapFor}

-- two days tie where they are equal
tied : (q day : ℕ) → q ≡ day → eq_by_cmp nat_cmp q day ≡ true
tied q day same = subst (λ (x : ℕ). eq_by_cmp nat_cmp q x ≡ true) same (ap is_eq (tied_itself nat_cmp_total q))

tie_is : (q day : ℕ) → eq_by_cmp nat_cmp q day ≡ true → q ≡ day
tie_is q day t = map.nat_cmp-IsAntisymmetric q day ((Equal-is (nat_cmp q day)).0 t)

apart : (q day : ℕ) → q ≢ day → eq_by_cmp nat_cmp q day ≡ false
apart q day other = by (eq_by_cmp nat_cmp q day) refl
  where
    by : (b : Bool) → eq_by_cmp nat_cmp q day ≡ b → b ≡ false
    by true e = absurd (other (tie_is q day e))
    by false e = refl

-- a look-up from the front finds the day at its place, where no earlier one is the same
find_at : (closings : List (ℕ × ℕ)) (day place : ℕ) → place < length closings → day_at closings place ≡ day → ((i : ℕ) → i < place → day_at closings i ≢ day) → map.find nat_cmp day closings ≡ Some (get_or closings place (0, 0)).1
find_at [] day place lt here before = absurd (omega (arith, lt))
find_at (closing ∷ closings) day zero lt here before = ap (λ b. cond b (Some closing.1) (map.find nat_cmp day closings)) (tied day closing.0 (sym here))
find_at (closing ∷ closings) day (suc place) lt here before =
    ap (λ b. cond b (Some closing.1) (map.find nat_cmp day closings)) (apart day closing.0 (λ e. before 0 (omega arith) (sym e)))
    ∙ find_at closings day place (omega (arith, lt)) here (λ i below. before (suc i) (omega (arith, below)))

-- and nothing, where no day is the same
find_none : (closings : List (ℕ × ℕ)) (day : ℕ) → ((i : ℕ) → i < length closings → day_at closings i ≢ day) → map.find nat_cmp day closings ≡ None
find_none [] day other = refl
find_none (closing ∷ closings) day other =
    ap (λ b. cond b (Some closing.1) (map.find nat_cmp day closings)) (apart day closing.0 (λ e. other 0 (omega arith) (sym e)))
    ∙ find_none closings day (λ i lt. other (suc i) (omega (arith, lt)))

-- a day that is put in, where no earlier one is the same
swapped : {A : Type 0} (a b : Bool) (x y z : A) → (a ≡ true → b ≡ true → ⊥) → cond a x (cond b y z) ≡ cond b y (cond a x z)
swapped true true x y z not_both = absurd (not_both refl refl)
swapped true false x y z not_both = refl
swapped false b x y z not_both = refl

find_inserted : (closings : List (ℕ × ℕ)) (place day minute q : ℕ) → ((i : ℕ) → i < place → i < length closings → day_at closings i ≢ day)
    → map.find nat_cmp q (list.insert closings place (day, minute)) ≡ cond (eq_by_cmp nat_cmp q day) (Some minute) (map.find nat_cmp q closings)
find_inserted closings zero day minute q before = refl
find_inserted [] (suc place) day minute q before = refl
find_inserted (closing ∷ closings) (suc place) day minute q before =
    ap (cond (eq_by_cmp nat_cmp q closing.0) (Some closing.1)) (find_inserted closings place day minute q (λ i below lt. before (suc i) (omega (arith, below)) (omega (arith, lt))))
    ∙ swapped (eq_by_cmp nat_cmp q closing.0) (eq_by_cmp nat_cmp q day) (Some closing.1) (Some minute) (map.find nat_cmp q closings)
    (λ a b. before 0 (omega arith) (omega arith) (sym (tie_is q closing.0 a) ∙ tie_is q day b))

module _ (closings : List (ℕ × ℕ)) (day : ℕ) (sorted : IsSortedByDay closings) where
  -- the day at its place
  pub get_at : (place : ℕ) → IsAt closings day place → map.get (map.from_entries {R = nat_cmp} closings) day ≡ Some (get_or closings place (0, 0)).1
  get_at place at = map.get-from_entries nat_cmp_total closings day ∙ find_at closings day place at.within at.here (λ i below e. omega (arith, sorted.ascending i place below at.within, at.here, e))

  -- a search by the day ends at its place, or where it would go
  comparisons_rise : IsNonDecreasingBy (λ closing. ordering_index (nat_cmp closing.0 day)) closings
  comparisons_rise = IsNonDecreasingBy-from_default (λ closing. ordering_index (nat_cmp closing.0 day)) closings (0, 0) (λ i j le lt.
      let rise : day_at closings i ≤ day_at closings j = grind (arith, sorted.ascending i j, λ (e : i ≡ j). ap (day_at closings) e) in
      grind (arith, nat_tests))

  pub searched : (r : Result ℕ ℕ) → IsSearchInRange r (length closings) → IsBinarySearchResult (λ closing. nat_cmp closing.0 day) closings r → IfOk r (IsAt closings day) × IfErr r (IsGapFor closings day)
  searched (Ok place) within search = (record { within = within; here = ranked _ day _ (sym (search (0, 0))) }, tt)
  searched (Err place) within search = (
    tt,
    record {
      within = within;
      before = λ i below. ranked _ day _ (sym ((search comparisons_rise).0 i (0, 0) (omega arith) below));
      after = λ i from lt. ranked _ day _ (sym ((search comparisons_rise).1 i (0, 0) from lt));
    },
  )

module _ (closings : List (ℕ × ℕ)) (day place : ℕ) (gap : IsGapFor closings day place) where
  other : (i : ℕ) → i < length closings → day_at closings i ≢ day
  other i lt e = elim (cases_lt i place) [ inl below ↦ omega (arith, gap.before i below, e) | inr from ↦ omega (arith, gap.after i from lt, e) ]

  -- a day that is not there
  pub get_none : map.get (map.from_entries {R = nat_cmp} closings) day ≡ None
  get_none = map.get-from_entries nat_cmp_total closings day ∙ find_none closings day other

  -- the list with the day at its place, as a map
  pub from_entries-insert : (minute : ℕ) → map.from_entries {R = nat_cmp} (list.insert closings place (day, minute)) ≡ map.insert (map.from_entries closings) day minute
  from_entries-insert minute =
      map.same_map nat_cmp_total map.nat_cmp-IsAntisymmetric _ _ (λ q.
      map.get-from_entries nat_cmp_total (list.insert closings place (day, minute)) q
      ∙ find_inserted closings place day minute q (λ i below lt. other i lt)
      ∙ ap (cond (eq_by_cmp nat_cmp q day) (Some minute)) (sym (map.get-from_entries nat_cmp_total closings q))
      ∙ sym (map.get-insert nat_cmp_total (map.from_entries closings) day minute q))

  -- the day at a place of the list with one more: an earlier one, the new one, or one that was moved up by a place
  day_at-insert : (minute i : ℕ) → let new = list.insert closings place (day, minute) in
      ((i < place) × (day_at new i ≡ day_at closings i)) ⊎ (((i ≡ place) × (day_at new i ≡ day)) ⊎ ((place < i) × (day_at new i ≡ day_at closings (i - 1))))
  day_at-insert minute i =
      elim (cases_lt i place) [
        | inl below ↦ inl (below, ap (λ (x : ℕ × ℕ). x.0) (get_or-insert_below closings place (day, minute) (0, 0) i below gap.within))
        | inr from ↦ inr (elim (cases_lt place i) [
          | inl above ↦ inr (
            above,
            subst (λ k. day_at (list.insert closings place (day, minute)) k ≡ day_at closings (i - 1)) {x = i - 1 + 1} (omega arith)
                (ap (λ (x : ℕ × ℕ). x.0) (get_or-insert_above closings place (day, minute) (0, 0) (i - 1) (omega arith) gap.within)),
          )
          | inr upto ↦ let here : place ≡ i = omega arith in
              inl (
                sym here,
                subst (λ k. day_at (list.insert closings place (day, minute)) k ≡ day) here
                    (ap (λ (x : ℕ × ℕ). x.0) (get_or-insert_at closings place (day, minute) (0, 0) gap.within)),
              )
        ])
      ]

  -- it keeps the order
  pub keeps_sorted_by_day : (minute : ℕ) → IsSortedByDay closings → IsSortedByDay (list.insert closings place (day, minute))
  keeps_sorted_by_day minute sorted = record {
    ascending = λ i j lt within.
        let long = length-insert closings place (day, minute) gap.within in
        grind (arith, day_at-insert minute i, day_at-insert minute j, sorted.ascending i j, sorted.ascending i (j - 1), sorted.ascending (i - 1) (j - 1), gap.before i, gap.after (j - 1));
    once =
        let other : map.contains_key (map.from_entries {R = nat_cmp} closings) day ≡ false = ap is_some get_none in
        ap map.len (from_entries-insert minute) ∙ map.len-insert nat_cmp_total (map.from_entries closings) day minute ∙ rw other (omega (arith, sorted.once, length-insert closings place (day, minute) gap.within));
  }

pub none_sorted : (closings : List (ℕ × ℕ)) → closings ≡ [] → IsSortedByDay closings
none_sorted closings e = rw e (record { ascending = λ i j lt within. absurd (omega (arith, within)); once = map.len-empty nat_cmp ℕ })
