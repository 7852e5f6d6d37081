-- The changes of the rows of ends lead to those of the case, and leave those of other cases.
use Rattle.std.proofs.Common.{◌≡◌, ◌≤◌, ◌<◌, ◌∙◌, ◌⊎◌, inl, inr, ℕ, zero, suc, ℤ, ◌+◌, ◌==◌, ◌&&◌, not, Bool, true, false, cond, List, [], ◌∷◌, ◌++◌, map, filter, Option, Some, None, IsPermutation, int_eq, refl, sym, ap, ap₂, subst, arith, append-nil, append_assoc, length}
use Rattle.std.specs.List.{AllByRecursion, Contains}
use Rattle.std.specs.Option.{option_eq}
use Rattle.std.proofs.lemmas.Bool.Decides.{nat_tests, Decides-int_eq}
use Rattle.std.proofs.lemmas.Bool.{and_parts, and_right}
use Rattle.std.proofs.lemmas.List.Elements.{filter-append}
use Rattle.std.proofs.lemmas.List.{map-append}
use Rattle.std.proofs.lemmas.List.Sorted.{IsPermutation-refl, IsPermutation-trans, IsPermutation-append_left, IsPermutation-append_right, IsPermutation-append_comm}
use Rattle.docket_decisions.specs.EndRows.{end_row, end_rows_from, is_of, moved_end, changed_ends, all_changed_ends, IsElsewhere, AreRowsFrom, is_same_end, end_changes, first_end, after_first, changes_from, touches}
use Rattle.docket_decisions.specs.declared.end_row.EndChange.{EndChange}
use Rattle.docket_decisions.specs.declared.end_row.EndChange.TheVariants.{Remove, Move}
use Rattle.docket_decisions.specs.declared.end_row.StoredEnd.{StoredEnd}
use Rattle.docket_decisions.specs.declared.end_row.EndTime.{EndTime}

pub all_changed_ends-append : (xs ys : List EndChange) (rows : List StoredEnd) → all_changed_ends (xs ++ ys) rows ≡ all_changed_ends ys (all_changed_ends xs rows)
all_changed_ends-append [] ys rows = refl
all_changed_ends-append (x ∷ xs) ys rows = all_changed_ends-append xs ys (changed_ends x rows)

same_moment : (a b : Option ℤ) → option_eq int_eq a b ≡ true → a ≡ b
same_moment None None e = refl
same_moment (Some at) (Some other) e = ap Some ((Decides-int_eq at other).0 e)
same_moment None (Some other) e = absurd (let no = e in cc)
same_moment (Some at) None e = absurd (let no = e in cc)

pub same_end : (a b : EndTime) → is_same_end a b ≡ true → a ≡ b
same_end a b e =
    let days = (and_parts (a.day == b.day) _ e).0 in
    let day : a.day ≡ b.day = grind (arith, nat_tests, days) in
    let moment : a.moment ≡ b.moment = same_moment a.moment b.moment (and_parts (a.day == b.day) _ e).1 in
    λ i. record { day = day i; moment = moment i }

day_itself : (n : ℕ) → (n == n) ≡ true
day_itself n = grind (arith, nat_tests)

moment_itself : (o : Option ℤ) → option_eq int_eq o o ≡ true
moment_itself None = refl
moment_itself (Some at) = (Decides-int_eq at at).1 refl

module _ (k : ℕ) where
  abbrev Elsewhere : ℕ → List StoredEnd → Type 0
  Elsewhere n rows = AllByRecursion (IsElsewhere k n) rows

  abbrev new : ℕ → EndTime → StoredEnd
  new n end = record { case = k; deadline = n; end = end }

  abbrev removed : ℕ → List StoredEnd → List StoredEnd
  removed n rows = filter (λ row. not (is_of k n row)) rows

  abbrev AreNot : ℕ → List StoredEnd → Type 0
  AreNot n rows = AllByRecursion (λ row. is_of k n row ≡ false) rows

  spared : (n : ℕ) (rows : List StoredEnd) → AreNot n rows → removed n rows ≡ rows
  spared n [] all = refl
  spared n (row ∷ rows) all = ap (λ b. cond (not b) (row ∷ removed n rows) (removed n rows)) all.0 ∙ ap (λ more. row ∷ more) (spared n rows all.1)

  pub are_not : (n m : ℕ) (rows : List StoredEnd) → n ≤ m → Elsewhere n rows → AreNot m rows
  are_not n m [] low all = tt
  are_not n m (row ∷ rows) low all = (all.0 m low, are_not n m rows low all.1)

  still : (n m : ℕ) (rows : List StoredEnd) → n ≤ m → Elsewhere n rows → Elsewhere m rows
  still n m [] low all = tt
  still n m (row ∷ rows) low all = ((λ i high. all.0 i (omega (arith, low, high))), still n m rows low all.1)

  one_more : (n : ℕ) (rows : List StoredEnd) (row : StoredEnd) → Elsewhere n rows → IsElsewhere k n row → Elsewhere n (rows ++ row ∷ [])
  one_more n [] row all one = (one, tt)
  one_more n (r ∷ rows) row all one = (all.0, one_more n rows row all.1 one)

  not_at : (n : ℕ) (row : StoredEnd) → (row.deadline == n) ≡ false → is_of k n row ≡ false
  not_at n row other = ap (λ b. row.case == k && b) other ∙ and_right (row.case == k) false refl

  past : (n : ℕ) (row : StoredEnd) → row.deadline < n → IsElsewhere k n row
  past n row low m high = not_at m row (grind (arith, nat_tests, low, high))

  pub later : (n m : ℕ) (rows : List StoredEnd) → n < m → AreRowsFrom k m rows → AreNot n rows
  later n m [] low are = tt
  later n m (row ∷ rows) low are =
      let high : m ≤ row.deadline = are.1 in
      (not_at n row (grind (arith, nat_tests, low, high)), later n (row.deadline + 1) rows (omega (arith, low, high)) are.2)

  is_here : (n : ℕ) (row : StoredEnd) → row.case ≡ k → row.deadline ≡ n → is_of k n row ≡ true
  is_here n row case deadline =
      let first : (row.case == k) ≡ true = grind (arith, nat_tests, case) in
      let second : (row.deadline == n) ≡ true = grind (arith, nat_tests, deadline) in
      ap₂ (λ a b. a && b) first second

  gone : (n : ℕ) (row : StoredEnd) (done rest late : List StoredEnd) → is_of k n row ≡ true → AreNot n done → AreNot n rest → AreNot n late
      → removed n ((done ++ row ∷ rest) ++ late) ≡ (done ++ rest) ++ late
  gone n row done rest late is a b c =
      let p : StoredEnd → Bool = λ r. not (is_of k n r) in
      filter-append p (done ++ row ∷ rest) late
      ∙ ap₂ (λ xs ys. xs ++ ys)
      (filter-append p done (row ∷ rest)
      ∙ ap₂ (λ xs ys. xs ++ ys) (spared n done a) (ap (λ b. cond (not b) (row ∷ removed n rest) (removed n rest)) is ∙ spared n rest b))
      (spared n late c)

  -- only the row of that deadline moves
  still_there : (n : ℕ) (end : EndTime) (rows : List StoredEnd) → AreNot n rows → map (moved_end (new n end)) rows ≡ rows
  still_there n end [] all = refl
  still_there n end (row ∷ rows) all = ap₂ (λ r more. r ∷ more) (ap (λ b. cond b (record row { end = end }) row) all.0) (still_there n end rows all.1)

  in_place : (n : ℕ) (row : StoredEnd) (end : EndTime) (done rest late : List StoredEnd) → row.case ≡ k → row.deadline ≡ n → AreNot n done → AreNot n rest → AreNot n late
      → map (moved_end (new n end)) ((done ++ row ∷ rest) ++ late) ≡ (done ++ new n end ∷ rest) ++ late
  in_place n row end done rest late case deadline a b c =
      let f : StoredEnd → StoredEnd = moved_end (new n end) in
      let here : f row ≡ new n end = ap (λ b. cond b (record row { end = end }) row) (is_here n row case deadline) ∙ λ i. record { case = case i; deadline = deadline i; end = end } in
      map-append f (done ++ row ∷ rest) late
      ∙ ap₂ (λ xs ys. xs ++ ys)
      (map-append f done (row ∷ rest) ∙ ap₂ (λ xs ys. xs ++ ys) (still_there n end done a) (ap₂ (λ r more. r ∷ more) here (still_there n end rest b)))
      (still_there n end late c)

  -- rows of no deadline go
  swept : (n : ℕ) (stored done late : List StoredEnd) → AreRowsFrom k n stored → Elsewhere n done → Elsewhere n late
      → all_changed_ends (map (λ row. Remove row.case row.deadline) stored) ((done ++ stored) ++ late) ≡ (done ++ late) ++ []
  swept n [] done late are a b = ap (λ xs. xs ++ late) (append-nil done) ∙ sym (append-nil (done ++ late))
  swept n (row ∷ rows) done late are a b =
      let m = row.deadline in
      ap (λ c. all_changed_ends (map (λ r. Remove r.case r.deadline) rows) (filter (λ r. not (is_of c m r)) ((done ++ row ∷ rows) ++ late))) are.0
      ∙ ap (all_changed_ends (map (λ r. Remove r.case r.deadline) rows)) (gone m row done rows late (is_here m row are.0 refl) (are_not n m done are.1 a) (later m (m + 1) rows (omega arith) are.2) (are_not n m late are.1 b))
      ∙ swept (m + 1) rows done late are.2 (still n (m + 1) done (omega (arith, are.1)) a) (still n (m + 1) late (omega (arith, are.1)) b)

  -- the row of a deadline comes first, or there is none
  abbrev pub Splits : ℕ → List StoredEnd → Type 0
  Splits n stored =
      ((first_end n stored ≡ None) × (after_first n stored ≡ stored) × AreRowsFrom k (n + 1) stored)
      ⊎ ((row : StoredEnd) × (rest : List StoredEnd) × (stored ≡ row ∷ rest) × (first_end n stored ≡ Some row.end) × (after_first n stored ≡ rest) × (row.case ≡ k) × (row.deadline ≡ n) × AreRowsFrom k (n + 1) rest)

  pub split : (n : ℕ) (stored : List StoredEnd) → AreRowsFrom k n stored → Splits n stored
  split n [] are = inl (refl, refl, tt)
  split n (row ∷ rows) are = at (row.deadline == n) refl
    where
      at : (b : Bool) → (row.deadline == n) ≡ b → Splits n (row ∷ rows)
      at true e =
          let same : row.deadline ≡ n = grind (arith, nat_tests, e) in
          inr (row, rows, refl, ap (λ b. cond b (Some row.end) None) e, ap (λ b. cond b rows (row ∷ rows)) e, are.0, same, subst (λ m. AreRowsFrom k (m + 1) rows) same are.2)
      at false e =
          let above : n + 1 ≤ row.deadline = grind (arith, nat_tests, e, are.1) in
          inl (ap (λ b. cond b (Some row.end) None) e, ap (λ b. cond b rows (row ∷ rows)) e, (are.0, above, are.2))

  abbrev Leads : ℕ → List (Option EndTime) → List StoredEnd → List StoredEnd → List StoredEnd → Type 0
  Leads n ends stored done late = IsPermutation (all_changed_ends (changes_from k n ends stored) ((done ++ stored) ++ late)) ((done ++ late) ++ end_rows_from k n ends)

  -- one deadline, by the leading of those after it
  module _ (n : ℕ) (ends : List (Option EndTime)) (rest done late : List StoredEnd) (more : (d l : List StoredEnd) → Elsewhere (n + 1) d → Elsewhere (n + 1) l → Leads (n + 1) ends rest d l)
      (off_done : Elsewhere n done) (off_late : Elsewhere n late) where
    abbrev Then : List EndChange → List StoredEnd → Option EndTime → Type 0
    Then changes rows end = IsPermutation (all_changed_ends (changes ++ changes_from k (n + 1) ends rest) rows) ((done ++ late) ++ (end_row k n end ++ end_rows_from k (n + 1) ends))

    off_done' : Elsewhere (n + 1) done
    off_done' = still n (n + 1) done (omega arith) off_done

    off_late' : Elsewhere (n + 1) late
    off_late' = still n (n + 1) late (omega arith) off_late

    none_more : Then [] ((done ++ rest) ++ late) None
    none_more = more done late off_done' off_late'

    added : (end : EndTime) → IsPermutation (all_changed_ends (changes_from k (n + 1) ends rest) (((done ++ rest) ++ late) ++ new n end ∷ [])) ((done ++ late) ++ (new n end ∷ end_rows_from k (n + 1) ends))
    added end =
        let last = new n end ∷ [] in
        let it = more done (late ++ last) off_done' (one_more (n + 1) late (new n end) off_late' (past (n + 1) (new n end) (omega arith))) in
        subst (λ xs. IsPermutation (all_changed_ends (changes_from k (n + 1) ends rest) xs) ((done ++ late) ++ (last ++ end_rows_from k (n + 1) ends))) (sym (append_assoc (done ++ rest) late last))
        (subst (λ ys. IsPermutation (all_changed_ends (changes_from k (n + 1) ends rest) ((done ++ rest) ++ (late ++ last))) ys)
        (ap (λ xs. xs ++ end_rows_from k (n + 1) ends) (sym (append_assoc done late last)) ∙ append_assoc (done ++ late) last (end_rows_from k (n + 1) ends)) it)

    module _ (row : StoredEnd) (case : row.case ≡ k) (deadline : row.deadline ≡ n) where
      -- the row of the deadline is right
      right : (end : EndTime) → row.end ≡ end → Then [] ((done ++ row ∷ rest) ++ late) (Some end)
      right end same =
          let one = row ∷ [] in
          let is : row ≡ new n end = λ i. record { case = case i; deadline = deadline i; end = same i } in
          let ends' = end_rows_from k (n + 1) ends in
          let gives = more (done ++ one) late (one_more (n + 1) done row off_done' (past (n + 1) row (omega (arith, deadline)))) off_late' in
          let moved : IsPermutation ((done ++ one) ++ late) ((done ++ late) ++ one) =
          subst (λ xs. IsPermutation xs ((done ++ late) ++ one)) (sym (append_assoc done one late))
          (subst (IsPermutation (done ++ (one ++ late))) (sym (append_assoc done late one)) (IsPermutation-append_right done _ _ (IsPermutation-append_comm one late))) in
          let whole : IsPermutation (((done ++ one) ++ late) ++ ends') ((done ++ late) ++ (row ∷ ends')) =
          subst (IsPermutation (((done ++ one) ++ late) ++ ends')) (append_assoc (done ++ late) one ends') (IsPermutation-append_left ends' _ _ moved) in
          let start : (done ++ one) ++ rest ≡ done ++ row ∷ rest = append_assoc done one rest in
          subst (λ r. IsPermutation (all_changed_ends (changes_from k (n + 1) ends rest) ((done ++ row ∷ rest) ++ late)) ((done ++ late) ++ (r ∷ ends'))) is
          (subst (λ xs. IsPermutation (all_changed_ends (changes_from k (n + 1) ends rest) (xs ++ late)) ((done ++ late) ++ (row ∷ ends'))) start (IsPermutation-trans _ _ _ gives whole))

    module _ (row : StoredEnd) (case : row.case ≡ k) (deadline : row.deadline ≡ n) (are : AreRowsFrom k (n + 1) rest) where
      abbrev all : List StoredEnd
      all = (done ++ row ∷ rest) ++ late

      none_done : AreNot n done
      none_done = are_not n n done (omega arith) off_done

      none_rest : AreNot n rest
      none_rest = later n (n + 1) rest (omega arith) are

      none_late : AreNot n late
      none_late = are_not n n late (omega arith) off_late

      taken : changed_ends (Remove k n) all ≡ (done ++ rest) ++ late
      taken = gone n row done rest late (is_here n row case deadline) none_done none_rest none_late

      moved : (end : EndTime) → changed_ends (Move (new n end)) all ≡ (done ++ new n end ∷ rest) ++ late
      moved end = in_place n row end done rest late case deadline none_done none_rest none_late

      exchanged : (end : EndTime) (b : Bool) → is_same_end row.end end ≡ b → Then (cond b [] (Move (new n end) ∷ [])) all (Some end)
      exchanged end true e = right row case deadline end (same_end row.end end e)
      exchanged end false e = subst (λ xs. IsPermutation (all_changed_ends (changes_from k (n + 1) ends rest) xs) ((done ++ late) ++ (new n end ∷ end_rows_from k (n + 1) ends))) (sym (moved end)) (right (new n end) refl refl end refl)

      by_row : (end : Option EndTime) → Then (end_changes k n (Some row.end) end) all end
      by_row None = subst (λ xs. IsPermutation (all_changed_ends (changes_from k (n + 1) ends rest) xs) ((done ++ late) ++ end_rows_from k (n + 1) ends)) (sym taken) none_more
      by_row (Some end) = exchanged end (is_same_end row.end end) refl

    by_none : (end : Option EndTime) → Then (end_changes k n None end) ((done ++ rest) ++ late) end
    by_none None = none_more
    by_none (Some end) = added end

  abbrev LeadsBy : ℕ → Option EndTime → List (Option EndTime) → List StoredEnd → List StoredEnd → Option EndTime → List StoredEnd → List StoredEnd → Type 0
  LeadsBy n end ends done late first rest rows =
      IsPermutation (all_changed_ends (end_changes k n first end ++ changes_from k (n + 1) ends rest) ((done ++ rows) ++ late)) ((done ++ late) ++ (end_row k n end ++ end_rows_from k (n + 1) ends))

  pub leads : (n : ℕ) (ends : List (Option EndTime)) (stored done late : List StoredEnd) → AreRowsFrom k n stored → Elsewhere n done → Elsewhere n late → Leads n ends stored done late
  leads n [] stored done late are a b =
      subst (λ xs. IsPermutation xs ((done ++ late) ++ [])) (sym (swept n stored done late are a b)) (IsPermutation-refl _)
  leads n (end ∷ ends) stored done late are a b =
      elim (split n stored are) [
        | inl it ↦
            subst (λ f. LeadsBy n end ends done late f (after_first n stored) stored) (sym it.0)
            (subst (λ r. LeadsBy n end ends done late None r stored) (sym it.1) (by_none n ends stored done late (λ d l p q. leads (n + 1) ends stored d l it.2 p q) a b end))
        | inr it ↦
            subst (λ f. LeadsBy n end ends done late f (after_first n stored) stored) (sym it.3)
            (subst (λ r. LeadsBy n end ends done late (Some it.0.end) r stored) (sym it.4)
            (subst (λ s. LeadsBy n end ends done late (Some it.0.end) it.1 s) (sym it.2) (by_row n ends it.1 done late (λ d l p q. leads (n + 1) ends it.1 d l it.7 p q) a b it.0 it.5 it.6 it.7 end)))
      ]

  -- a row that is right is not touched

  abbrev Untouched : StoredEnd → List EndChange → Type 0
  Untouched row changes = AllByRecursion (λ change. touches change row ≡ false) changes

  contained : (x : StoredEnd) (xs : List StoredEnd) (y : StoredEnd) → Contains (x ∷ xs) y → (x ≡ y) ⊎ Contains xs y
  contained x xs y h = at h.0 h.1 h.2
    where
      at : (i : ℕ) → i < length (x ∷ xs) → Rattle.std.specs.Prelude.slice_index_or (x ∷ xs) i y ≡ y → (x ≡ y) ⊎ Contains xs y
      at zero low is = inl is
      at (suc i) low is = inr (i, omega (arith, low), is)

  untouched_both : (row : StoredEnd) (xs ys : List EndChange) → Untouched row xs → Untouched row ys → Untouched row (xs ++ ys)
  untouched_both row [] ys a b = b
  untouched_both row (x ∷ xs) ys a b = (a.0, untouched_both row xs ys a.1 b)

  untouched_at : (n : ℕ) (first end : Option EndTime) (row : StoredEnd) → is_of k n row ≡ false → Untouched row (end_changes k n first end)
  untouched_at n None None row off = tt
  untouched_at n None (Some end) row off = (off, tt)
  untouched_at n (Some stored) None row off = (off, tt)
  untouched_at n (Some stored) (Some end) row off =
      elim (is_same_end stored end) as (λ b. Untouched row (cond b [] (Move (new n end) ∷ []))) [ true ↦ tt | false ↦ (off, tt) ]

  pub after_are : (n : ℕ) (stored : List StoredEnd) → AreRowsFrom k n stored → AreRowsFrom k (n + 1) (after_first n stored)
  after_are n stored are =
      elim (split n stored are) [
        | inl it ↦ subst (AreRowsFrom k (n + 1)) (sym it.1) it.2
        | inr it ↦ subst (AreRowsFrom k (n + 1)) (sym it.4) it.7
      ]

  pub before : (n : ℕ) (row : StoredEnd) → row.deadline < n → is_of k n row ≡ false
  before n row low = not_at n row (grind (arith, nat_tests, low))

  far_swept : (m : ℕ) (stored : List StoredEnd) (row : StoredEnd) → AreRowsFrom k m stored → row.deadline < m → Untouched row (map (λ r. Remove r.case r.deadline) stored)
  far_swept m [] row are low = tt
  far_swept m (r ∷ rows) row are low =
      let other : (row.deadline == r.deadline) ≡ false = grind (arith, nat_tests, low, are.1) in
      (ap (λ b. row.case == r.case && b) other ∙ and_right (row.case == r.case) false refl, far_swept (r.deadline + 1) rows row are.2 (omega (arith, low, are.1)))

  far : (m : ℕ) (ends : List (Option EndTime)) (stored : List StoredEnd) (row : StoredEnd) → AreRowsFrom k m stored → row.deadline < m → Untouched row (changes_from k m ends stored)
  far m [] stored row are low = far_swept m stored row are low
  far m (end ∷ ends) stored row are low =
      untouched_both row (end_changes k m (first_end m stored) end) (changes_from k (m + 1) ends (after_first m stored)) (untouched_at m (first_end m stored) end row (before m row low))
      (far (m + 1) ends (after_first m stored) row (after_are m stored are) (omega (arith, low)))

  stored_from : (n : ℕ) (stored : List StoredEnd) (row : StoredEnd) → AreRowsFrom k n stored → Contains stored row → n ≤ row.deadline
  stored_from n [] row are has = absurd (omega (arith, has.1))
  stored_from n (r ∷ rows) row are has =
      elim (contained r rows row has) [
        | inl same ↦ omega (arith, are.1, ap (λ (x : StoredEnd). x.deadline) same)
        | inr more ↦ omega (arith, are.1, stored_from (r.deadline + 1) rows row are.2 more)
      ]

  wanted_from : (n : ℕ) (ends : List (Option EndTime)) (row : StoredEnd) → Contains (end_rows_from k n ends) row → n ≤ row.deadline
  wanted_from n [] row has = absurd (omega (arith, has.1))
  wanted_from n (None ∷ ends) row has = omega (arith, wanted_from (n + 1) ends row has)
  wanted_from n (Some end ∷ ends) row has =
      elim (contained (new n end) (end_rows_from k (n + 1) ends) row has) [
        | inl same ↦ omega (arith, ap (λ (x : StoredEnd). x.deadline) same)
        | inr more ↦ omega (arith, wanted_from (n + 1) ends row more)
      ]

  -- of a row of a later deadline
  wanted_later : (n : ℕ) (end : Option EndTime) (ends : List (Option EndTime)) (row : StoredEnd) → n + 1 ≤ row.deadline → Contains (end_row k n end ++ end_rows_from k (n + 1) ends) row → Contains (end_rows_from k (n + 1) ends) row
  wanted_later n None ends row high has = has
  wanted_later n (Some end) ends row high has =
      elim (contained (new n end) (end_rows_from k (n + 1) ends) row has) [
        | inl same ↦ absurd (omega (arith, high, ap (λ (x : StoredEnd). x.deadline) same))
        | inr more ↦ more
      ]

  same_itself : (end : EndTime) → is_same_end end end ≡ true
  same_itself end = ap₂ (λ a b. a && b) (day_itself end.day) (moment_itself end.moment)

  right_kept : (n : ℕ) (end : Option EndTime) (ends : List (Option EndTime)) (row : StoredEnd) → row.deadline ≡ n → Contains (end_row k n end ++ end_rows_from k (n + 1) ends) row → Untouched row (end_changes k n (Some row.end) end)
  right_kept n None ends row deadline has = absurd (omega (arith, deadline, wanted_from (n + 1) ends row has))
  right_kept n (Some end) ends row deadline has =
      elim (contained (new n end) (end_rows_from k (n + 1) ends) row has) [
        | inl same ↦
            let is : is_same_end row.end end ≡ true = ap (λ (x : StoredEnd). is_same_end row.end x.end) same ∙ same_itself row.end in
            subst (λ b. Untouched row (cond b [] (Move (new n end) ∷ []))) (sym is) tt
        | inr more ↦ absurd (omega (arith, deadline, wanted_from (n + 1) ends row more))
      ]

  after_at : (n : ℕ) (row : StoredEnd) → n + 1 ≤ row.deadline → is_of k n row ≡ false
  after_at n row high = not_at n row (grind (arith, nat_tests, high))

  module _ (n : ℕ) (end : Option EndTime) (ends : List (Option EndTime)) (row : StoredEnd) (wanted : Contains (end_row k n end ++ end_rows_from k (n + 1) ends) row)
      (r : StoredEnd) (rest : List StoredEnd) (deadline : r.deadline ≡ n) (more : AreRowsFrom k (n + 1) rest) (has : Contains (r ∷ rest) row) where
    kept_here : Untouched row (end_changes k n (Some r.end) end)
    kept_here =
        elim (contained r rest row has) [
          | inl same ↦ subst (λ (x : StoredEnd). Untouched row (end_changes k n (Some x.end) end)) (sym same) (right_kept n end ends row (sym (ap (λ (x : StoredEnd). x.deadline) same) ∙ deadline) wanted)
          | inr other ↦ untouched_at n (Some r.end) end row (after_at n row (stored_from (n + 1) rest row more other))
        ]

    kept_there : (Contains rest row → Contains (end_rows_from k (n + 1) ends) row → Untouched row (changes_from k (n + 1) ends rest)) → Untouched row (changes_from k (n + 1) ends rest)
    kept_there next =
        elim (contained r rest row has) [
          | inl same ↦ far (n + 1) ends rest row more (omega (arith, deadline, ap (λ (x : StoredEnd). x.deadline) same))
          | inr other ↦ next other (wanted_later n end ends row (stored_from (n + 1) rest row more other) wanted)
        ]

  pub untouched : (n : ℕ) (ends : List (Option EndTime)) (stored : List StoredEnd) (row : StoredEnd) → AreRowsFrom k n stored → Contains stored row → Contains (end_rows_from k n ends) row → Untouched row (changes_from k n ends stored)
  untouched n [] stored row are has wanted = absurd (omega (arith, wanted.1))
  untouched n (end ∷ ends) stored row are has wanted =
      elim (split n stored are) [
        | inl it ↦
            let high : n + 1 ≤ row.deadline = stored_from (n + 1) stored row it.2 has in
            untouched_both row (end_changes k n (first_end n stored) end) (changes_from k (n + 1) ends (after_first n stored)) (untouched_at n (first_end n stored) end row (after_at n row high))
            (subst (λ r. Untouched row (changes_from k (n + 1) ends r)) (sym it.1) (untouched (n + 1) ends stored row it.2 has (wanted_later n end ends row high wanted)))
        | inr it ↦
            let here : Contains (it.0 ∷ it.1) row = subst (λ s. Contains s row) it.2 has in
            untouched_both row (end_changes k n (first_end n stored) end) (changes_from k (n + 1) ends (after_first n stored))
            (subst (λ f. Untouched row (end_changes k n f end)) (sym it.3) (kept_here n end ends row wanted it.0 it.1 it.6 it.7 here))
            (subst (λ r. Untouched row (changes_from k (n + 1) ends r)) (sym it.4) (kept_there n end ends row wanted it.0 it.1 it.6 it.7 here (λ other later. untouched (n + 1) ends it.1 row it.7 other later)))
      ]

  -- with rows of other cases before them
  pub leads_beside : (ends : List (Option EndTime)) (stored others : List StoredEnd) → AreRowsFrom k 1 stored → Elsewhere 1 others
      → IsPermutation (all_changed_ends (changes_from k 1 ends stored) (others ++ stored)) (others ++ end_rows_from k 1 ends)
  leads_beside ends stored others are apart =
      subst (λ xs. IsPermutation (all_changed_ends (changes_from k 1 ends stored) (others ++ stored)) (xs ++ end_rows_from k 1 ends)) (append-nil others)
      (subst (λ xs. IsPermutation (all_changed_ends (changes_from k 1 ends stored) xs) ((others ++ []) ++ end_rows_from k 1 ends)) (append-nil (others ++ stored)) (leads 1 ends stored others [] are apart tt))
