-- Looking a number up among numbers that rise.
use Rattle.std.proofs.Common.{◌≡◌, ◌≢◌, ℕ, zero, suc, ◌≤◌, ◌<◌, ◌==◌, true, false, List, [], ◌∷◌, length, get_or, Result, Ok, Err, refl, sym, arith, ⊎_elim}
use Rattle.std.proofs.lemmas.Bool.{cases_lt, or_from, or_right}
use Rattle.std.proofs.lemmas.Bool.Decides.{nat_tests}
use Rattle.std.proofs.lemmas.List.Sorted.{searched}
use Rattle.std.specs.Prelude.{is_ok}
use Rattle.std.specs.List.{AllByRecursion}
use Rattle.std.specs.List.Sorted.{IsBinarySearchResult}
use Rattle.std.specs.Ordering.{nat_cmp}
use Rattle.docket_sound.specs.Numbers.{Rises}
use Rattle.docket_sound.specs.ShortDays.{is_among}

later_above : (n : ℕ) (ns : List ℕ) → AllByRecursion (λ m. n < m) ns → (i : ℕ) → i < length ns → n < get_or ns i 0
later_above n [] all i low = absurd (omega (arith, low))
later_above n (m ∷ ns) all zero low = all.0
later_above n (m ∷ ns) all (suc i) low = later_above n ns all.1 i (omega (arith, low))

no_lower : (ns : List ℕ) → Rises ns → (i j : ℕ) → i ≤ j → j < length ns → get_or ns i 0 ≤ get_or ns j 0
no_lower [] rises i j low high = absurd (omega (arith, high))
no_lower (n ∷ ns) rises zero zero low high = omega arith
no_lower (n ∷ ns) rises zero (suc j) low high = let above = later_above n ns rises.0 j (omega (arith, high)) in omega (arith, above)
no_lower (n ∷ ns) rises (suc i) zero low high = absurd (omega (arith, low))
no_lower (n ∷ ns) rises (suc i) (suc j) low high = no_lower ns rises.1 i j (omega (arith, low)) (omega (arith, high))

found_among : (ns : List ℕ) (x i : ℕ) → i < length ns → get_or ns i 0 ≡ x → is_among ns x ≡ true
found_among [] x i low is = absurd (omega (arith, low))
found_among (n ∷ ns) x zero low is = let own : (n == x) ≡ true = grind (arith, nat_tests, is) in rw own refl
found_among (n ∷ ns) x (suc i) low is = or_right (n == x) (is_among ns x) (found_among ns x i (omega (arith, low)) is)

not_among : (ns : List ℕ) (x : ℕ) → ((k : ℕ) → k < length ns → get_or ns k 0 ≢ x) → is_among ns x ≡ false
not_among [] x other = refl
not_among (n ∷ ns) x other =
    let first = other zero (omega arith) in
    let own : (n == x) ≡ false = grind (arith, nat_tests, first) in
    or_from (n == x) (is_among ns x) own (not_among ns x (λ k low. other (suc k) (omega (arith, low))))

pub among_searched : (ns : List ℕ) (x : ℕ) (r : Result ℕ ℕ) → Rises ns → IsBinarySearchResult (λ y. nat_cmp y x) ns r → is_ok r ≡ is_among ns x
among_searched ns x (Ok i) rises found =
    let place = searched ns x (Ok i) found (no_lower ns rises) in
    sym (found_among ns x i place.0 place.1)
among_searched ns x (Err i) rises found =
    let place = searched ns x (Err i) found (no_lower ns rises) in
    sym (not_among ns x (λ k low same. apart i k (place.1 k) (place.2 k) low same))
  where
    apart : (i k : ℕ) → (k < i → get_or ns k 0 < x) → (i ≤ k → k < length ns → x < get_or ns k 0) → k < length ns → get_or ns k 0 ≡ x → ⊥
    apart i k below above low same = ⊎_elim (λ l. omega (arith, below l, same)) (λ l. omega (arith, above l low, same)) (cases_lt k i)
