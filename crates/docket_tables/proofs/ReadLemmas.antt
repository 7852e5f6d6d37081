-- Rows that were read, one after another.
use Rattle.std.proofs.Common.{◌≡◌, ◌∙◌, ◌+◌, ◌<◌, ◌==◌, ◌||◌, ◌⊎◌, inl, inr, ℕ, zero, suc, nat_lt, List, [], ◌∷◌, map, filter, find, length, slice_get, Bool, true, false, cond, Some, None, refl, sym, ap, subst, arith, Result, Ok, Err, IsErrAnd}
use Rattle.std.specs.List.{list_any}
use Rattle.std.proofs.lemmas.Bool.Decides.{nat_tests}
use Rattle.sqlite.specs.Store.{Ghosts}
use Rattle.sqlite.specs.State.{HasCleanDisk}
use Rattle.sqlite.specs.Held.{Held, state}
use Rattle.docket_tables.specs.Layouts.{Rows}
use Rattle.docket_orderly.specs.Orderly.{RunsFrom}
use Rattle.docket_tables.specs.Readings.{IsReadAs, Fails, Gives, StaysAt, Stays}
use Rattle.docket_tables.specs.Stands.{HoldsRows}
use Rattle.docket_tables.specs.declared.fault.ReadFault.{ReadFault}
use Rattle.docket_tables.specs.declared.fault.ReadFault.TheVariants.{Store, NoMemory, Damaged}

-- what was read of a connection that holds the rows
pub gives : {S : Type 0} (g : Ghosts S) {X : Type 0} (new : Held S) (rows : Rows) (answer : X → Type 0) (result : Result X ReadFault) → HoldsRows g new rows
    → (HasCleanDisk (state g new) → IsReadAs answer result) → Gives g new rows answer result
gives g new rows answer (Ok x) holds read = (holds, read)
gives g new rows answer (Err (Store e)) holds read = (holds.0, λ clean. record { images = (holds.1 clean).images; settled = λ _. holds.1 clean })
gives g new rows answer (Err NoMemory) holds read = holds
gives g new rows answer (Err Damaged) holds read = read

-- the rows are held, whatever was answered
pub stays : {S : Type 0} (g : Ghosts S) {X : Type 0} (new : Held S) (rows : Rows) (result : Result X ReadFault) → HoldsRows g new rows → Stays g new rows result
stays g new rows (Ok x) holds = holds
stays g new rows (Err (Store e)) holds = (holds.0, λ clean. record { images = (holds.1 clean).images; settled = λ _. holds.1 clean })
stays g new rows (Err NoMemory) holds = holds
stays g new rows (Err Damaged) holds = holds

-- what a failure of one question leaves, the failure of the whole leaves
pub err_stays : {S : Type 0} (g : Ghosts S) {X : Type 0} (new : Held S) (rows : Rows) (e : ReadFault) (res : Result X ReadFault) → IsErrAnd res (λ f. f ≡ e) → StaysAt g new rows e → Stays g new rows res
err_stays g new rows e (Ok x) same left = absurd same
err_stays g new rows e (Err f) same left = subst (StaysAt g new rows) (sym same) left

-- a failure of one question is a failure of the whole
pub err_given : {S : Type 0} (g : Ghosts S) {X : Type 0} (new : Held S) (rows : Rows) (Q : X → Type 0) (e : ReadFault) (res : Result X ReadFault) → IsErrAnd res (λ f. f ≡ e)
    → Fails g new rows e → Gives g new rows Q res
err_given g new rows Q e (Ok x) same fails = absurd same
err_given g new rows Q e (Err f) same fails = subst (Fails g new rows) (sym same) fails

-- out of memory, while the rows are held
pub short_given : {S : Type 0} (g : Ghosts S) {X : Type 0} (new : Held S) (rows : Rows) (Q : X → Type 0) (res : Result X ReadFault) → IsErrAnd res (λ f. f ≡ NoMemory)
    → HoldsRows g new rows → Gives g new rows Q res
short_given g new rows Q (Ok x) same holds = absurd same
short_given g new rows Q (Err f) same holds = subst (Fails g new rows) (sym same) holds

-- the answer in other words
pub gives_weaker : {S : Type 0} (g : Ghosts S) {X : Type 0} (new : Held S) (rows : Rows) (P Q : X → Type 0) (res : Result X ReadFault) → ((x : X) → P x → Q x) → Gives g new rows P res → Gives g new rows Q res
gives_weaker g new rows P Q (Ok x) f h = (h.0, λ clean. f x (h.1 clean))
gives_weaker g new rows P Q (Err e) f h = h

pub read_ok : {X : Type 0} (answer : X → Type 0) (result : Result X ReadFault) (x : X) → result ≡ Ok x → answer x → IsReadAs answer result
read_ok answer result x is holds = subst (IsReadAs answer) (sym is) holds

pub any_kept : {X : Type 0} (p : X → Bool) (xs : List X) → nat_lt 0 (length (filter p xs)) ≡ list_any p xs
any_kept p [] = refl
any_kept p (x ∷ xs) = at (p x) (any_kept p xs)
  where
    at : (b : Bool) → nat_lt 0 (length (filter p xs)) ≡ list_any p xs → nat_lt 0 (length (cond b (x ∷ filter p xs) (filter p xs))) ≡ (b || list_any p xs)
    at true more = grind (arith, nat_tests)
    at false more = more

-- the first that passes, if one does
pub first_kept : {X : Type 0} (p : X → Bool) (xs : List X) → ((find p xs ≡ None) × (filter p xs ≡ [])) ⊎ ((x : X) × (rest : List X) × (find p xs ≡ Some x) × (filter p xs ≡ x ∷ rest))
first_kept p [] = inl (refl, refl)
first_kept {X} p (x ∷ xs) = at (p x) (first_kept p xs)
  where
    at : (b : Bool) → ((find p xs ≡ None) × (filter p xs ≡ [])) ⊎ ((y : X) × (rest : List X) × (find p xs ≡ Some y) × (filter p xs ≡ y ∷ rest))
        → ((cond b (Some x) (find p xs) ≡ None) × (cond b (x ∷ filter p xs) (filter p xs) ≡ [])) ⊎ ((y : X) × (rest : List X) × (cond b (Some x) (find p xs) ≡ Some y) × (cond b (x ∷ filter p xs) (filter p xs) ≡ y ∷ rest))
    at true more = inr (x, filter p xs, refl, refl)
    at false more = more

module _ {X : Type 0} (number : X → ℕ) where
  pub none_below : (n k : ℕ) (xs : List X) → k < n → RunsFrom n (map number xs) → filter (λ x. number x == k) xs ≡ []
  none_below n k [] low runs = refl
  none_below n k (x ∷ xs) low runs =
      let other : (number x == k) ≡ false = grind (arith, nat_tests, low, runs.0) in
      ap (λ b. cond b (x ∷ filter (λ y. number y == k) xs) (filter (λ y. number y == k) xs)) other ∙ none_below (suc n) k xs (omega (arith, low)) runs.1

  pub numbered_at : (n i : ℕ) (xs : List X) → RunsFrom n (map number xs)
      → ((slice_get xs i ≡ None) × (filter (λ x. number x == n + i) xs ≡ [])) ⊎ ((x : X) × (slice_get xs i ≡ Some x) × (filter (λ y. number y == n + i) xs ≡ x ∷ []))
  numbered_at n i [] runs = inl (refl, refl)
  numbered_at n zero (x ∷ xs) runs =
      let here : (number x == n + 0) ≡ true = grind (arith, nat_tests, runs.0) in
      inr (
        x,
        refl,
        ap (λ b. cond b (x ∷ filter (λ y. number y == n + 0) xs) (filter (λ y. number y == n + 0) xs)) here
            ∙ ap (λ ys. x ∷ ys) (none_below (suc n) (n + 0) xs (omega arith) runs.1),
      )
  numbered_at n (suc i) (x ∷ xs) runs =
      let other : (number x == n + suc i) ≡ false = grind (arith, nat_tests, runs.0) in
      let same : suc n + i ≡ n + suc i = omega arith in
      let kept : filter (λ y. number y == n + suc i) (x ∷ xs) ≡ filter (λ y. number y == suc n + i) xs =
      ap (λ b. cond b (x ∷ filter (λ y. number y == n + suc i) xs) (filter (λ y. number y == n + suc i) xs)) other ∙ ap (λ k. filter (λ y. number y == k) xs) (sym same) in
      elim (numbered_at (suc n) i xs runs.1) [ inl none ↦ inl (none.0, kept ∙ none.1) | inr one ↦ inr (one.0, one.1, kept ∙ one.2) ]

-- what was read, in other words
pub read_as : {X : Type 0} (P Q : X → Type 0) (result : Result X ReadFault) → ((x : X) → P x → Q x) → IsReadAs P result → IsReadAs Q result
read_as P Q (Ok x) f h = f x h
read_as P Q (Err (Store e)) f h = h
read_as P Q (Err NoMemory) f h = h
read_as P Q (Err Damaged) f h = h
