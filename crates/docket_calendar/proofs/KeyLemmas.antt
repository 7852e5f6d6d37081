-- The deadlines of a docket: no two have one number in one case, each is numbered within its case, and they are few.
use Rattle.std.proofs.Common.{◌≡◌, ◌∙◌, ◌⊎◌, inl, inr, ℕ, zero, suc, ◌+◌, ◌*◌, ◌<◌, ◌≤◌, ◌==◌, ◌&&◌, not, Bool, true, false, cond, List, [], ◌∷◌, ◌++◌, map, filter, length, refl, sym, ap, subst, arith}
use Rattle.std.specs.List.{AllByRecursion, flat_map}
use Rattle.std.proofs.lemmas.Bool.Decides.{nat_tests}
use Rattle.std.proofs.lemmas.List.Filters.{length-filter_both}
use Rattle.sqlite_keyed.proofs.ListLemmas.{all_weaker}
use Rattle.docket_history.specs.Histories.{deadlines_of_case}
use Rattle.docket_history.specs.declared.row.DeadlineRow.{DeadlineRow}
use Rattle.docket_tables.specs.Orderly.{RunsFrom}

-- it has the case and the number of that deadline
abbrev pub is_same : DeadlineRow → DeadlineRow → Bool
is_same d other = other.case == d.case && other.number == d.number

-- no two are the same
abbrev pub Apart : List DeadlineRow → Type 0
Apart [] = Unit {0}
Apart (d ∷ ds) = AllByRecursion (λ other. is_same d other ≡ false) ds × Apart ds

abbrev numbers : List DeadlineRow → List ℕ
numbers ds = map (λ (d : DeadlineRow). d.number) ds

-- the deadlines of each case are numbered from some number on, without gaps
abbrev Numbered : List DeadlineRow → Type 0
Numbered ds = (k : ℕ) → (n : ℕ) × RunsFrom n (numbers (deadlines_of_case k ds))

without_first : (d : DeadlineRow) (ds : List DeadlineRow) → Numbered (d ∷ ds) → Numbered ds
without_first d ds runs k = at (d.case == k) (runs k)
  where
    at : (b : Bool) → (n : ℕ) × RunsFrom n (numbers (cond b (d ∷ deadlines_of_case k ds) (deadlines_of_case k ds))) → (n : ℕ) × RunsFrom n (numbers (deadlines_of_case k ds))
    at true h = (suc h.0, h.1.1)
    at false h = h

-- numbers that run from one on are not below it
run_high : (m n : ℕ) (ds : List DeadlineRow) → m ≤ n → RunsFrom n (numbers ds) → AllByRecursion (λ (d : DeadlineRow). m ≤ d.number) ds
run_high m n [] le runs = tt
run_high m n (d ∷ ds) le runs = (omega (arith, le, runs.0), run_high m (suc n) ds (omega (arith, le)) runs.1)

-- what holds of the deadlines of a case, for all
of_case : (P : DeadlineRow → Type 0) (k : ℕ) (ds : List DeadlineRow) → AllByRecursion P (deadlines_of_case k ds) → AllByRecursion (λ d. d.case ≡ k → P d) ds
of_case P k [] all = tt
of_case P k (d ∷ ds) all = at (d.case == k) refl all (λ rest. of_case P k ds rest)
  where
    at : (b : Bool) → (d.case == k) ≡ b → AllByRecursion P (cond b (d ∷ deadlines_of_case k ds) (deadlines_of_case k ds)) → (AllByRecursion P (deadlines_of_case k ds) → AllByRecursion (λ d. d.case ≡ k → P d) ds)
        → (d.case ≡ k → P d) × AllByRecursion (λ d. d.case ≡ k → P d) ds
    at true e h more = ((λ _. h.0), more h.1)
    at false e h more = ((λ is. absurd (grind (arith, nat_tests, e, is))), more h)

first_runs : (d : DeadlineRow) (ds : List DeadlineRow) → Numbered (d ∷ ds) → AllByRecursion (λ (other : DeadlineRow). d.number + 1 ≤ other.number) (deadlines_of_case d.case ds)
first_runs d ds runs = at (d.case == d.case) (grind (arith, nat_tests)) (runs d.case)
  where
    at : (b : Bool) → b ≡ true → (n : ℕ) × RunsFrom n (numbers (cond b (d ∷ deadlines_of_case d.case ds) (deadlines_of_case d.case ds))) → AllByRecursion (λ (other : DeadlineRow). d.number + 1 ≤ other.number) (deadlines_of_case d.case ds)
    at true e h = run_high (d.number + 1) (suc h.0) (deadlines_of_case d.case ds) (omega (arith, h.1.0)) h.1.1
    at false e h = absurd (let no = e in cc)

other_than : (d other : DeadlineRow) → (other.case ≡ d.case → d.number + 1 ≤ other.number) → is_same d other ≡ false
other_than d other high = at (other.case == d.case) refl
  where
    at : (b : Bool) → (other.case == d.case) ≡ b → (b && other.number == d.number) ≡ false
    at true e = let is : other.case ≡ d.case = grind (arith, nat_tests, e) in let above = high is in grind (arith, nat_tests, above)
    at false e = refl

apart_from : (ds : List DeadlineRow) → Numbered ds → Apart ds
apart_from [] runs = tt
apart_from (d ∷ ds) runs = (
  all_weaker _ (λ other. is_same d other ≡ false) (λ other high. other_than d other high) ds (of_case (λ other. d.number + 1 ≤ other.number) d.case ds (first_runs d ds runs)),
  apart_from ds (without_first d ds runs),
)

pub apart : (ds : List DeadlineRow) → ((k : ℕ) → RunsFrom 1 (numbers (deadlines_of_case k ds))) → Apart ds
apart ds runs = apart_from ds (λ k. (1, runs k))

-- one thing for each that is the deadline, once
module _ {X : Type 0} (show : DeadlineRow → X) where
  abbrev those : DeadlineRow → List DeadlineRow → List X
  those d ds = flat_map (λ other. cond (is_same d other) (show other ∷ []) []) ds

  none_there : (d : DeadlineRow) (ds : List DeadlineRow) → AllByRecursion (λ other. is_same d other ≡ false) ds → those d ds ≡ []
  none_there d [] off = refl
  none_there d (x ∷ ds) off = ap (λ (b : Bool). cond b (show x ∷ []) [] ++ those d ds) off.0 ∙ none_there d ds off.1

  itself : (d : DeadlineRow) → is_same d d ≡ true
  itself d = grind (arith, nat_tests)

  symmetric : (d other : DeadlineRow) → is_same d other ≡ false → is_same other d ≡ false
  symmetric d other e = at (other.case == d.case) (d.case == other.case) refl refl e
    where
      at : (a b : Bool) → (other.case == d.case) ≡ a → (d.case == other.case) ≡ b → (a && other.number == d.number) ≡ false → (b && d.number == other.number) ≡ false
      at true true p q h = grind (arith, nat_tests, h)
      at false true p q h = absurd (grind (arith, nat_tests, p, q))
      at a false p q h = refl

  behind : (x : DeadlineRow) (ds rest : List DeadlineRow) → AllByRecursion (λ other. is_same x other ≡ false) rest → AllByRecursion (λ d. those d ds ≡ show d ∷ []) rest → AllByRecursion (λ d. those d (x ∷ ds) ≡ show d ∷ []) rest
  behind x ds [] off all = tt
  behind x ds (d ∷ rest) off all = (ap (λ (b : Bool). cond b (show x ∷ []) [] ++ those d ds) (symmetric x d off.0) ∙ all.0, behind x ds rest off.1 all.1)

  pub once : (ds : List DeadlineRow) → Apart ds → AllByRecursion (λ d. those d ds ≡ show d ∷ []) ds
  once [] off = tt
  once (d ∷ ds) off = (ap (λ (b : Bool). cond b (show d ∷ []) [] ++ those d ds) (itself d) ∙ ap (λ (xs : List X). show d ∷ xs) (none_there d ds off.0), behind d ds ds off.0 (once ds off.1))

-- how many there are

abbrev others : ℕ → List DeadlineRow → List DeadlineRow
others k ds = filter (λ (d : DeadlineRow). not (d.case == k)) ds

no_own : (k : ℕ) (ds : List DeadlineRow) → deadlines_of_case k (others k ds) ≡ []
no_own k [] = refl
no_own k (d ∷ ds) = at (d.case == k) refl (no_own k ds)
  where
    at : (b : Bool) → (d.case == k) ≡ b → deadlines_of_case k (others k ds) ≡ [] → deadlines_of_case k (cond (not b) (d ∷ others k ds) (others k ds)) ≡ []
    at true e more = more
    at false e more = ap (λ b. cond b (d ∷ deadlines_of_case k (others k ds)) (deadlines_of_case k (others k ds))) e ∙ more

else_kept : (k j : ℕ) (ds : List DeadlineRow) → (j == k) ≡ false → deadlines_of_case j (others k ds) ≡ deadlines_of_case j ds
else_kept k j [] off = refl
else_kept k j (d ∷ ds) off = at (d.case == k) refl (else_kept k j ds off)
  where
    at : (b : Bool) → (d.case == k) ≡ b → deadlines_of_case j (others k ds) ≡ deadlines_of_case j ds
        → deadlines_of_case j (cond (not b) (d ∷ others k ds) (others k ds)) ≡ cond (d.case == j) (d ∷ deadlines_of_case j ds) (deadlines_of_case j ds)
    at true e more =
        let gone : (d.case == j) ≡ false = grind (arith, nat_tests, e, off) in
        more ∙ sym (ap (λ b. cond b (d ∷ deadlines_of_case j ds) (deadlines_of_case j ds)) gone)
    at false e more = ap (λ xs. cond (d.case == j) (d ∷ xs) xs) more

none_left : (ds : List DeadlineRow) → ((k : ℕ) → deadlines_of_case k ds ≡ []) → ds ≡ []
none_left [] none = refl
none_left (d ∷ ds) none =
    let here : (d.case == d.case) ≡ true = grind (arith, nat_tests) in
    absurd (let no = ap (λ b. cond b (d ∷ deadlines_of_case d.case ds) (deadlines_of_case d.case ds)) (sym here) ∙ none d.case in cc)

-- of so many cases, each with at most 1,000
pub few_of_cases : (n : ℕ) (ds : List DeadlineRow) → ((k : ℕ) → length (deadlines_of_case k ds) ≤ 1000) → ((k : ℕ) → (k < 1) ⊎ (n < k) → deadlines_of_case k ds ≡ []) → length ds ≤ n * 1000
few_of_cases zero ds small none = rw (none_left ds (λ k. at k)) (omega arith)
  where
    at : (k : ℕ) → deadlines_of_case k ds ≡ []
    at zero = none zero (inl (omega arith))
    at (suc k) = none (suc k) (inr (omega arith))
few_of_cases (suc n) ds small none =
    let split = length-filter_both (λ (d : DeadlineRow). d.case == suc n) (λ (d : DeadlineRow). not (d.case == suc n)) (λ d. refl) ds in
    let rest = few_of_cases n (others (suc n) ds) kept gone in
    let here = small (suc n) in
    omega (arith, split, rest, here)
  where
    kept : (k : ℕ) → length (deadlines_of_case k (others (suc n) ds)) ≤ 1000
    kept k = at (k == suc n) refl
      where
        at : (b : Bool) → (k == suc n) ≡ b → length (deadlines_of_case k (others (suc n) ds)) ≤ 1000
        at true e = let is : suc n ≡ k = grind (arith, nat_tests, e) in subst (λ j. length (deadlines_of_case j (others (suc n) ds)) ≤ 1000) is (rw (no_own (suc n) ds) (omega arith))
        at false e = rw (else_kept (suc n) k ds e) (small k)

    gone : (k : ℕ) → (k < 1) ⊎ (n < k) → deadlines_of_case k (others (suc n) ds) ≡ []
    gone k out = at (k == suc n) refl
      where
        at : (b : Bool) → (k == suc n) ≡ b → deadlines_of_case k (others (suc n) ds) ≡ []
        at true e = let is : suc n ≡ k = grind (arith, nat_tests, e) in subst (λ j. deadlines_of_case j (others (suc n) ds) ≡ []) is (no_own (suc n) ds)
        at false e =
            let far : (k < 1) ⊎ (suc n < k) = elim out [ inl low ↦ inl low | inr high ↦ inr (let apart : (k == suc n) ≡ false = e in grind (arith, nat_tests, high, apart)) ] in
            else_kept (suc n) k ds e ∙ none k far
