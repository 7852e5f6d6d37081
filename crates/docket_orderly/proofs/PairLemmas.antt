-- Rows that are apart, each from all those after it.
use Rattle.std.proofs.Common.{◌≡◌, ◌≢◌, ℕ, ◌<◌, ◌≤◌, Bool, true, false, cond, List, [], ◌∷◌, ◌++◌, map, length, subst, arith}
use Rattle.std.specs.Prelude.{filter}
use Rattle.std.specs.List.{AllByRecursion}
use Rattle.docket_decisions.proofs.ListLemmas.{all_both, all_front}
use Rattle.docket_orderly.specs.Orderly.{Rises}
use Rattle.docket_orderly.proofs.ListLemmas.{all_by}

-- what holds of each with all after it
abbrev pub Pairwise : {X : Type 0} → (X → X → Type 0) → List X → Type 0
Pairwise R [] = Unit {0}
Pairwise R (x ∷ xs) = AllByRecursion (R x) xs × Pairwise R xs

module _ {X : Type 0} (P : X → Type 0) where
  -- what holds of all holds of the last
  all_last : (xs : List X) (y : X) → AllByRecursion P (xs ++ y ∷ []) → P y
  all_last [] y all = all.0
  all_last (x ∷ xs) y all = all_last xs y all.1

  -- it holds of what is left of those in front, with the others
  if_front : (b : Bool) (x : X) (xs ys : List X) → P x → AllByRecursion P (xs ++ ys) → AllByRecursion P (cond b (x ∷ xs) xs ++ ys)
  if_front true x xs ys here rest = (here, rest)
  if_front false x xs ys here rest = rest

  all_left_front : (p : X → Bool) (xs ys : List X) → AllByRecursion P (xs ++ ys) → AllByRecursion P (filter p xs ++ ys)
  all_left_front p [] ys all = all
  all_left_front p (x ∷ xs) ys all = if_front (p x) x (filter p xs) ys all.0 (all_left_front p xs ys all.1)

module _ {X : Type 0} (R : X → X → Type 0) where
  -- those in front of the last are apart from it
  pub all_before : (xs : List X) (y : X) → Pairwise R (xs ++ y ∷ []) → AllByRecursion (λ x. R x y) xs
  all_before [] y apart = tt
  all_before (x ∷ xs) y apart = (all_last (R x) xs y apart.0, all_before xs y apart.1)

  -- those in front are apart
  pub front_apart : (xs ys : List X) → Pairwise R (xs ++ ys) → Pairwise R xs
  front_apart [] ys apart = tt
  front_apart (x ∷ xs) ys apart = (all_front (R x) xs ys apart.0, front_apart xs ys apart.1)

  -- with one more, from which all are apart
  pub one_apart : (xs : List X) (y : X) → Pairwise R xs → AllByRecursion (λ x. R x y) xs → Pairwise R (xs ++ y ∷ [])
  one_apart [] y apart all = (tt, tt)
  one_apart (x ∷ xs) y apart all = (all_both (R x) xs (y ∷ []) apart.0 (all.0, tt), one_apart xs y apart.1 all.1)

  -- what is left of those in front, with the others
  if_apart : (b : Bool) (x : X) (xs ys : List X) → AllByRecursion (R x) (xs ++ ys) → Pairwise R (xs ++ ys) → Pairwise R (cond b (x ∷ xs) xs ++ ys)
  if_apart true x xs ys here rest = (here, rest)
  if_apart false x xs ys here rest = rest

  pub left_apart : (p : X → Bool) (xs ys : List X) → Pairwise R (xs ++ ys) → Pairwise R (filter p xs ++ ys)
  left_apart p [] ys apart = apart
  left_apart p (x ∷ xs) ys apart = if_apart (p x) x (filter p xs) ys (all_left_front (R x) p xs ys apart.0) (left_apart p xs ys apart.1)

  -- what follows of two that are apart
  pub apart_by : (S : X → X → Type 0) → ((x y : X) → R x y → S x y) → (xs : List X) → Pairwise R xs → Pairwise S xs
  apart_by S follows [] apart = tt
  apart_by S follows (x ∷ xs) apart = (all_by (R x) (S x) (follows x) xs apart.0, apart_by S follows xs apart.1)

  -- apart by the one and by the other
  all_pairs : (P Q : X → Type 0) (xs : List X) → AllByRecursion P xs → AllByRecursion Q xs → AllByRecursion (λ x. P x × Q x) xs
  all_pairs P Q [] one two = tt
  all_pairs P Q (x ∷ xs) one two = ((one.0, two.0), all_pairs P Q xs one.1 two.1)

  pub apart_both : (S : X → X → Type 0) (xs : List X) → Pairwise R xs → Pairwise S xs → Pairwise (λ x y. R x y × S x y) xs
  apart_both S [] one two = tt
  apart_both S (x ∷ xs) one two = (all_pairs (R x) (S x) xs one.0 two.0, apart_both S xs one.1 two.1)

-- numbers that rise are apart
module _ {X : Type 0} (number : X → ℕ) where
  above_apart : (n : ℕ) (xs : List X) → AllByRecursion (λ m. n < m) (map number xs) → AllByRecursion (λ x. n ≢ number x) xs
  above_apart n [] above = tt
  above_apart n (x ∷ xs) above = (λ same. absurd (omega (arith, above.0, same)), above_apart n xs above.1)

  pub rising_apart : (xs : List X) → Rises (map number xs) → Pairwise (λ x y. number x ≢ number y) xs
  rising_apart [] up = tt
  rising_apart (x ∷ xs) up = (above_apart (number x) xs up.0, rising_apart xs up.1)

-- rows of a key
module _ {X K : Type 0} (of : K → X → Bool) (key : X → K) (own : (x : X) → of (key x) x ≡ true) where
  -- the numbers of the rows of each key rise: those of one key are apart
  module _ (number : X → ℕ) where
    more_rise : (b : Bool) (x : X) (xs : List X) → Rises (map number (cond b (x ∷ xs) xs)) → Rises (map number xs)
    more_rise true x xs up = up.1
    more_rise false x xs up = up

    above_if : (n : ℕ) (b : Bool) (x : X) (xs : List X) → AllByRecursion (λ m. n < m) (map number (cond b (x ∷ xs) xs)) → (b ≡ true → n ≢ number x) × AllByRecursion (λ m. n < m) (map number xs)
    above_if n true x xs above = (λ e same. absurd (omega (arith, above.0, same)), above.1)
    above_if n false x xs above = (λ e. absurd (let clash : false ≡ true = e in cc), above)

    key_above : (k : K) (n : ℕ) (xs : List X) → AllByRecursion (λ m. n < m) (map number (filter (of k) xs)) → AllByRecursion (λ x. of k x ≡ true → n ≢ number x) xs
    key_above k n [] above = tt
    key_above k n (x ∷ xs) above = let both = above_if n (of k x) x (filter (of k) xs) above in (both.0, key_above k n xs both.1)

    pub key_apart : (xs : List X) → ((k : K) → Rises (map number (filter (of k) xs))) → Pairwise (λ x y. of (key x) y ≡ true → number x ≢ number y) xs
    key_apart [] up = tt
    key_apart (x ∷ xs) up =
        let here : Rises (map number (x ∷ filter (of (key x)) xs)) = subst (λ b. Rises (map number (cond b (x ∷ filter (of (key x)) xs) (filter (of (key x)) xs)))) (own x) (up (key x)) in
        (key_above (key x) (number x) xs here.0, key_apart xs (λ k. more_rise (of k x) x (filter (of k) xs) (up k)))

  -- each key has one row at most: all are apart
  fewer : (b : Bool) (n : ℕ) (x : X) (xs : List X) → length (cond b (x ∷ xs) xs) ≤ n → length xs ≤ n
  fewer true n x xs few = omega (arith, few)
  fewer false n x xs few = few

  none_if : (b : Bool) (x : X) (xs : List X) → length (cond b (x ∷ xs) xs) ≤ 0 → b ≢ true
  none_if true x xs few = absurd (omega (arith, few))
  none_if false x xs few = λ e. absurd (let clash : false ≡ true = e in cc)

  none_under : (k : K) (xs : List X) → length (filter (of k) xs) ≤ 0 → AllByRecursion (λ x. of k x ≢ true) xs
  none_under k [] few = tt
  none_under k (x ∷ xs) few = (none_if (of k x) x (filter (of k) xs) few, none_under k xs (fewer (of k x) 0 x (filter (of k) xs) few))

  pub single_apart : (xs : List X) → ((k : K) → length (filter (of k) xs) ≤ 1) → Pairwise (λ x y. of (key x) y ≢ true) xs
  single_apart [] few = tt
  single_apart (x ∷ xs) few =
      let here : length (x ∷ filter (of (key x)) xs) ≤ 1 = subst (λ b. length (cond b (x ∷ filter (of (key x)) xs) (filter (of (key x)) xs)) ≤ 1) (own x) (few (key x)) in
      (none_under (key x) xs (omega (arith, here)), single_apart xs (λ k. fewer (of k x) 1 x (filter (of k) xs) (few k)))
