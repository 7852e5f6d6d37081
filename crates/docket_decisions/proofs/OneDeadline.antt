-- The row of one deadline among those of others, and that a history has each deadline once.
use Rattle.std.proofs.Common.{◌≡◌, ◌∙◌, ◌≤◌, ◌<◌, ℕ, ◌+◌, ◌==◌, ◌&&◌, not, Bool, true, false, cond, List, [], ◌∷◌, ◌++◌, map, filter, length, Option, Some, None, IsPermutation, refl, sym, ap, ap₂, subst, arith, append_assoc, length-append}
use Rattle.std.specs.List.{AllByRecursion}
use Rattle.std.proofs.lemmas.Bool.Decides.{nat_tests}
use Rattle.std.proofs.lemmas.List.{map-append}
use Rattle.std.proofs.lemmas.List.Elements.{filter-append}
use Rattle.std.proofs.lemmas.List.Sorted.{IsPermutation-refl, IsPermutation-append_right, IsPermutation-append_comm}
use Rattle.docket_history.specs.Actions.{deadlines_made}
use Rattle.docket_decisions.specs.EndRows.{end_row, is_of, moved_end, changed_ends, all_changed_ends, is_same_end, end_changes}
use Rattle.docket_history.specs.Histories.{History, deadline_rows, deadlines_of_case, deadline_rows_from, case_number, rule_found}
use Rattle.docket_history.specs.InOrder.{asked_in_order, gathered, made_in}
use Rattle.docket_history.specs.declared.row.NewDeadline.{NewDeadline}
use Rattle.docket_decisions.specs.declared.end_row.EndChange.{EndChange}
use Rattle.docket_decisions.specs.declared.end_row.EndChange.TheVariants.{Remove, Move}
use Rattle.docket_decisions.specs.declared.end_row.StoredEnd.{StoredEnd}
use Rattle.docket_decisions.specs.declared.end_row.EndTime.{EndTime}
use Rattle.docket_history.specs.declared.row.DeadlineRow.{DeadlineRow}
use Rattle.docket_decisions.proofs.ActsKept.{no_fewer}
use Rattle.docket_decisions.proofs.EndChanges.{same_end}
use Rattle.docket_decisions.proofs.InOrderLemmas.{deadlines_in_order, length-from, of_case}
use Rattle.docket_decisions.proofs.ListLemmas.{all_both}

-- one deadline, among those of others

module _ (k n : ℕ) where
  abbrev pub AreOthers : List StoredEnd → Type 0
  AreOthers rows = AllByRecursion (λ row. is_of k n row ≡ false) rows

  abbrev new : EndTime → StoredEnd
  new end = record { case = k; deadline = n; end = end }

  here : (k == k && n == n) ≡ true
  here = let a : (k == k) ≡ true = grind (arith, nat_tests) in let b : (n == n) ≡ true = grind (arith, nat_tests) in ap₂ (λ x y. x && y) a b

  left : (rows : List StoredEnd) → AreOthers rows → filter (λ row. not (is_of k n row)) rows ≡ rows
  left [] all = refl
  left (row ∷ rows) all = ap (λ b. cond (not b) (row ∷ filter (λ r. not (is_of k n r)) rows) (filter (λ r. not (is_of k n r)) rows)) all.0 ∙ ap (λ more. row ∷ more) (left rows all.1)

  stay : (end : EndTime) (rows : List StoredEnd) → AreOthers rows → map (moved_end (new end)) rows ≡ rows
  stay end [] all = refl
  stay end (row ∷ rows) all = ap₂ (λ r more. r ∷ more) (ap (λ b. cond b (record row { end = end }) row) all.0) (stay end rows all.1)

  module _ (front back : List StoredEnd) (off_front : AreOthers front) (off_back : AreOthers back) where
    removed : (stored : EndTime) → changed_ends (Remove k n) (front ++ new stored ∷ back) ≡ front ++ back
    removed stored =
        filter-append (λ row. not (is_of k n row)) front (new stored ∷ back)
        ∙ ap₂ (λ xs ys. xs ++ ys) (left front off_front) (ap (λ b. cond (not b) (new stored ∷ filter (λ r. not (is_of k n r)) back) (filter (λ r. not (is_of k n r)) back)) here ∙ left back off_back)

    replaced : (stored end : EndTime) → changed_ends (Move (new end)) (front ++ new stored ∷ back) ≡ front ++ new end ∷ back
    replaced stored end =
        map-append (moved_end (new end)) front (new stored ∷ back)
        ∙ ap₂ (λ xs ys. xs ++ ys) (stay end front off_front) (ap₂ (λ r more. r ∷ more) (ap (λ b. cond b (new end) (new stored)) here) (stay end back off_back))

    abbrev Leads : List EndChange → Option EndTime → Option EndTime → Type 0
    Leads changes stored end = IsPermutation (all_changed_ends changes (front ++ (end_row k n stored ++ back))) (front ++ (end_row k n end ++ back))

    by_end : (stored end : EndTime) (b : Bool) → is_same_end stored end ≡ b → Leads (cond b [] (Move (new end) ∷ [])) (Some stored) (Some end)
    by_end stored end true e = subst (λ t. IsPermutation (front ++ new stored ∷ back) (front ++ new t ∷ back)) (same_end stored end e) (IsPermutation-refl _)
    by_end stored end false e = subst (λ xs. IsPermutation xs (front ++ new end ∷ back)) (sym (replaced stored end)) (IsPermutation-refl _)

    -- the row of the deadline changes as its end does
    pub one_changed : (stored end : Option EndTime) → Leads (end_changes k n stored end) stored end
    one_changed None None = IsPermutation-refl _
    one_changed None (Some end) =
        subst (λ xs. IsPermutation xs (front ++ (new end ∷ back))) (sym (append_assoc front back (new end ∷ [])))
        (IsPermutation-append_right front _ _ (IsPermutation-append_comm back (new end ∷ [])))
    one_changed (Some stored) None = subst (λ xs. IsPermutation xs (front ++ back)) (sym (removed stored)) (IsPermutation-refl _)
    one_changed (Some stored) (Some end) = by_end stored end (is_same_end stored end) refl

-- a row that is found once

module _ {X : Type 0} (p : X → Bool) where
  abbrev pub AreNot : List X → Type 0
  AreNot xs = AllByRecursion (λ x. p x ≡ false) xs

  pub record IsOnce (xs : List X) : Type 0 where
    pub front : List X
    pub one : X
    pub back : List X
    pub is : xs ≡ front ++ one ∷ back
    pub passes : p one ≡ true
    pub before : AreNot front
    pub after : AreNot back

  none_pass : (xs : List X) → filter p xs ≡ [] → AreNot xs
  none_pass [] e = tt
  none_pass (x ∷ xs) e = at (p x) refl e (λ f. none_pass xs f)
    where
      at : (b : Bool) → p x ≡ b → cond (p x) (x ∷ filter p xs) (filter p xs) ≡ [] → (filter p xs ≡ [] → AreNot xs) → AreNot (x ∷ xs)
      at true is f next = absurd (let no = ap (λ b. cond b (x ∷ filter p xs) (filter p xs)) (sym is) ∙ f in cc)
      at false is f next = (is, next (ap (λ b. cond b (x ∷ filter p xs) (filter p xs)) (sym is) ∙ f))

  found_once : (y : X) (xs : List X) → filter p xs ≡ y ∷ [] → IsOnce xs
  found_once y [] e = absurd (let no = e in cc)
  found_once y (x ∷ xs) e = at (p x) refl e (λ f. found_once y xs f)
    where
      at : (b : Bool) → p x ≡ b → cond (p x) (x ∷ filter p xs) (filter p xs) ≡ y ∷ [] → (filter p xs ≡ y ∷ [] → IsOnce xs) → IsOnce (x ∷ xs)
      at true is f next =
          let both : x ∷ filter p xs ≡ y ∷ [] = ap (λ b. cond b (x ∷ filter p xs) (filter p xs)) (sym is) ∙ f in
          let rest : filter p xs ≡ [] = (let it = both in cc) in
          record { front = []; one = x; back = xs; is = refl; passes = is; before = tt; after = none_pass xs rest }
      at false is f next =
          let it = next (ap (λ b. cond b (x ∷ filter p xs) (filter p xs)) (sym is) ∙ f) in
          record { front = x ∷ it.front; one = it.one; back = it.back; is = ap (λ zs. x ∷ zs) it.is; passes = it.passes; before = (is, it.before); after = it.after }

-- the numbers of deadlines

abbrev pub is_deadline : ℕ → ℕ → DeadlineRow → Bool
is_deadline k n d = d.case == k && d.number == n

of_both : (k n : ℕ) (ds : List DeadlineRow) → filter (is_deadline k n) ds ≡ filter (λ (d : DeadlineRow). d.number == n) (deadlines_of_case k ds)
of_both k n [] = refl
of_both k n (d ∷ ds) = at (d.case == k) refl (of_both k n ds)
  where
    at : (b : Bool) → (d.case == k) ≡ b → filter (is_deadline k n) ds ≡ filter (λ (x : DeadlineRow). x.number == n) (deadlines_of_case k ds)
        → cond (d.case == k && d.number == n) (d ∷ filter (is_deadline k n) ds) (filter (is_deadline k n) ds) ≡ filter (λ (x : DeadlineRow). x.number == n) (cond (d.case == k) (d ∷ deadlines_of_case k ds) (deadlines_of_case k ds))
    at true e more =
        ap (λ b. cond (b && d.number == n) (d ∷ filter (is_deadline k n) ds) (filter (is_deadline k n) ds)) e
        ∙ ap (λ xs. cond (d.number == n) (d ∷ xs) xs) more
        ∙ sym (ap (λ b. filter (λ (x : DeadlineRow). x.number == n) (cond b (d ∷ deadlines_of_case k ds) (deadlines_of_case k ds))) e)
    at false e more =
        ap (λ b. cond (b && d.number == n) (d ∷ filter (is_deadline k n) ds) (filter (is_deadline k n) ds)) e
        ∙ more
        ∙ sym (ap (λ b. filter (λ (x : DeadlineRow). x.number == n) (cond b (d ∷ deadlines_of_case k ds) (deadlines_of_case k ds))) e)

past_number : (k m n : ℕ) (made : List NewDeadline) → n < m → filter (λ (d : DeadlineRow). d.number == n) (deadline_rows_from k m made) ≡ []
past_number k m n [] low = refl
past_number k m n (x ∷ made) low =
    let other : (m == n) ≡ false = grind (arith, nat_tests, low) in
    ap (λ b. cond b (record { case = k; number = m; party = x.party; rule = x.rule; initial = x.initial } ∷ filter (λ (d : DeadlineRow). d.number == n) (deadline_rows_from k (m + 1) made)) (filter (λ (d : DeadlineRow). d.number == n) (deadline_rows_from k (m + 1) made))) other
    ∙ past_number k (m + 1) n made (omega (arith, low))

abbrev HasNumber : ℕ → List DeadlineRow → Type 0
HasNumber n ds = (d : DeadlineRow) × (filter (λ (x : DeadlineRow). x.number == n) ds ≡ d ∷ [])

numbered_once : (k m n : ℕ) (made : List NewDeadline) → m ≤ n → n < m + length made → HasNumber n (deadline_rows_from k m made)
numbered_once k m n [] low high = absurd (omega (arith, low, high))
numbered_once k m n (x ∷ made) low high = at (m == n) refl (λ more. numbered_once k (m + 1) n made more (omega (arith, high)))
  where
    row : DeadlineRow
    row = record { case = k; number = m; party = x.party; rule = x.rule; initial = x.initial }

    rest : List DeadlineRow
    rest = filter (λ (d : DeadlineRow). d.number == n) (deadline_rows_from k (m + 1) made)

    at : (b : Bool) → (m == n) ≡ b → (m + 1 ≤ n → HasNumber n (deadline_rows_from k (m + 1) made)) → HasNumber n (deadline_rows_from k m (x ∷ made))
    at true e next =
        let is : m ≡ n = grind (arith, nat_tests, e) in
        (row, ap (λ b. cond b (row ∷ rest) rest) e ∙ ap (λ xs. row ∷ xs) (past_number k (m + 1) n made (omega (arith, is))))
    at false e next =
        let more : m + 1 ≤ n = grind (arith, nat_tests, e, low) in
        let it = next more in
        (it.0, ap (λ b. cond b (row ∷ rest) rest) e ∙ it.1)

-- a deadline of a history is there once
pub deadline_once : (h : History) (k n : ℕ) → 1 ≤ n → n ≤ length (deadlines_of_case k (deadline_rows h)) → IsOnce (is_deadline k n) (deadline_rows h)
deadline_once h k n low high =
    let made = gathered (made_in k) (asked_in_order h) in
    let are = deadlines_in_order k h in
    let it = numbered_once k 1 n made low (omega (arith, high, ap length are, length-from k 1 made)) in
    found_once (is_deadline k n) it.0 (deadline_rows h) (of_both k n (deadline_rows h) ∙ ap (λ ds. filter (λ (d : DeadlineRow). d.number == n) ds) are ∙ it.1)

-- its number is at most how many its case has
abbrev pub IsWithin : List DeadlineRow → DeadlineRow → Type 0
IsWithin ds d = d.number ≤ length (deadlines_of_case d.case ds)

still_within : (ds new rows : List DeadlineRow) → AllByRecursion (IsWithin ds) rows → AllByRecursion (IsWithin (ds ++ new)) rows
still_within ds new [] all = tt
still_within ds new (d ∷ rows) all = (omega (arith, all.0, no_fewer d.case ds new), still_within ds new rows all.1)

new_within : (ds : List DeadlineRow) (k m : ℕ) (made : List NewDeadline) → m + length made ≤ length (deadlines_of_case k ds) + 1 → AllByRecursion (IsWithin ds) (deadline_rows_from k m made)
new_within ds k m [] room = tt
new_within ds k m (x ∷ made) room = (omega (arith, room), new_within ds k (m + 1) made (omega (arith, room)))

pub all_within : (h : History) → AllByRecursion (IsWithin (deadline_rows h)) (deadline_rows h)
all_within [] = tt
all_within (c ∷ h) =
    let k = case_number c.action in
    let ds = deadline_rows h in
    let made = deadlines_made (rule_found h c.action) c.action in
    let count = length (deadlines_of_case k ds) in
    let new = deadline_rows_from k (count + 1) made in
    let same : (k == k) ≡ true = grind (arith, nat_tests) in
    let all : length (deadlines_of_case k (ds ++ new)) ≡ count + length made =
    ap length (filter-append (λ (d : DeadlineRow). d.case == k) ds new ∙ ap (λ xs. deadlines_of_case k ds ++ xs) (of_case k k (count + 1) made true same))
    ∙ length-append (deadlines_of_case k ds) new ∙ ap (λ i. count + i) (length-from k (count + 1) made) in
    all_both (IsWithin (ds ++ new)) ds new (still_within ds new ds (all_within h)) (new_within (ds ++ new) k (count + 1) made (omega (arith, all)))
