-- Lists whose numbers run or rise.
use Rattle.std.proofs.Common.{◌≡◌, ℕ, suc, ◌+◌, ◌<◌, Bool, true, false, cond, List, [], ◌∷◌, ◌++◌, map, length, subst, arith}
use Rattle.std.specs.Prelude.{filter}
use Rattle.std.specs.List.{AllByRecursion}
use Rattle.docket_history.specs.InOrder.{numbered_by}
use Rattle.docket_decisions.proofs.ListLemmas.{all_both}
use Rattle.docket_orderly.specs.Orderly.{Rises, RunsFrom}

-- what holds of all
module _ {X : Type 0} (P : X → Type 0) where
  if_kept : (b : Bool) (x : X) (xs : List X) → P x → AllByRecursion P xs → AllByRecursion P (cond b (x ∷ xs) xs)
  if_kept true x xs here rest = (here, rest)
  if_kept false x xs here rest = rest

  pub all_left : (p : X → Bool) (xs : List X) → AllByRecursion P xs → AllByRecursion P (filter p xs)
  all_left p [] all = tt
  all_left p (x ∷ xs) all = if_kept (p x) x (filter p xs) all.0 (all_left p xs all.1)

  pub all_by : (Q : X → Type 0) → ((x : X) → P x → Q x) → (xs : List X) → AllByRecursion P xs → AllByRecursion Q xs
  all_by Q follows [] all = tt
  all_by Q follows (x ∷ xs) all = (follows x all.0, all_by Q follows xs all.1)

-- numbers of rows
module _ {X : Type 0} (number : X → ℕ) where
  if_left : (Q : ℕ → Type 0) (b : Bool) (x : X) (xs : List X) → Q (number x) → AllByRecursion Q (map number xs) → AllByRecursion Q (map number (cond b (x ∷ xs) xs))
  if_left Q true x xs here rest = (here, rest)
  if_left Q false x xs here rest = rest

  pub numbers_left : (Q : ℕ → Type 0) (p : X → Bool) (xs : List X) → AllByRecursion Q (map number xs) → AllByRecursion Q (map number (filter p xs))
  numbers_left Q p [] all = tt
  numbers_left Q p (x ∷ xs) all = if_left Q (p x) x (filter p xs) all.0 (numbers_left Q p xs all.1)

  if_rises : (b : Bool) (x : X) (xs : List X) → AllByRecursion (λ m. number x < m) (map number xs) → Rises (map number xs) → Rises (map number (cond b (x ∷ xs) xs))
  if_rises true x xs above rest = (above, rest)
  if_rises false x xs above rest = rest

  pub rises_left : (p : X → Bool) (xs : List X) → Rises (map number xs) → Rises (map number (filter p xs))
  rises_left p [] up = tt
  rises_left p (x ∷ xs) up = if_rises (p x) x (filter p xs) (numbers_left (λ m. number x < m) p xs up.0) (rises_left p xs up.1)

-- numbers that run
pub runs_above : (m n : ℕ) (xs : List ℕ) → m < n → RunsFrom n xs → AllByRecursion (λ k. m < k) xs
runs_above m n [] lt runs = tt
runs_above m n (x ∷ xs) lt runs = (omega (arith, lt, runs.0), runs_above m (suc n) xs (omega (arith, lt)) runs.1)

pub runs_below : (n : ℕ) (xs : List ℕ) → RunsFrom n xs → AllByRecursion (λ k. k < n + length xs) xs
runs_below n [] runs = tt
runs_below n (x ∷ xs) runs =
    (omega (arith, runs.0), all_by (λ k. k < suc n + length xs) (λ k. k < n + suc (length xs)) (λ k lt. omega (arith, lt)) xs (runs_below (suc n) xs runs.1))

pub runs_rise : (n : ℕ) (xs : List ℕ) → RunsFrom n xs → Rises xs
runs_rise n [] runs = tt
runs_rise n (x ∷ xs) runs = (runs_above x (suc n) xs (omega (arith, runs.0)) runs.1, runs_rise (suc n) xs runs.1)

pub runs_both : (n : ℕ) (xs ys : List ℕ) → RunsFrom n xs → RunsFrom (n + length xs) ys → RunsFrom n (xs ++ ys)
runs_both n [] ys one two = let start : n + 0 ≡ n = omega arith in subst (λ m. RunsFrom m ys) start two
runs_both n (x ∷ xs) ys one two =
    let next : n + suc (length xs) ≡ suc n + length xs = omega arith in
    (one.0, runs_both (suc n) xs ys one.1 (subst (λ m. RunsFrom m ys) next two))

-- rising numbers below a number, and others that run from there
pub rises_both : (n : ℕ) (xs ys : List ℕ) → Rises xs → AllByRecursion (λ m. m < n) xs → RunsFrom n ys → Rises (xs ++ ys)
rises_both n [] ys up below runs = runs_rise n ys runs
rises_both n (x ∷ xs) ys up below runs =
    (all_both (λ m. x < m) xs ys up.0 (runs_above x n ys below.0 runs), rises_both n xs ys up.1 below.1 runs)

-- rows that are numbered run
module _ {A R : Type 0} (row : ℕ → A → R) (number : R → ℕ) (is : (n : ℕ) (x : A) → number (row n x) ≡ n) where
  pub numbered_runs : (n : ℕ) (xs : List A) → RunsFrom n (map number (numbered_by row n xs))
  numbered_runs n [] = tt
  numbered_runs n (x ∷ xs) = let next : n + 1 ≡ suc n = omega arith in (is n x, subst (λ m. RunsFrom m (map number (numbered_by row (n + 1) xs))) next (numbered_runs (n + 1) xs))
