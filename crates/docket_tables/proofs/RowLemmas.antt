-- Rows of one table, one after another.
use Rattle.std.proofs.Common.{◌≡◌, ◌∙◌, ◌+◌, ◌<◌, ℕ, zero, suc, List, [], ◌∷◌, ◌++◌, map, length, take, get_or, refl, sym, ap, arith}
use Rattle.std.specs.List.{AllByRecursion}
use Rattle.std.proofs.lemmas.List.{take_more, length-map}
use Rattle.sqlite.specs.Order.{Row}

module _ {X : Type 0} (cells : X → Row) (Is : X → Type 0) where
  -- the row is that of an element
  pub record IsRowOf (xs : List X) (i : ℕ) (row : Row) : Type 0 where
    pub element : X
    pub is : row ≡ cells element
    pub typed : Is element
    pub more : take (i + 1) xs ≡ take i xs ++ element ∷ []

  found_at : (xs : List X) (i : ℕ) (row : Row) → AllByRecursion Is xs → i < length xs → row ≡ get_or (map cells xs) i row → (x : X) × (row ≡ cells x) × Is x × (x ≡ get_or xs i x)
  found_at [] i row all low is = absurd (omega (arith, low))
  found_at (x ∷ xs) zero row all low is = (x, is, all.0, refl)
  found_at (x ∷ xs) (suc i) row all low is = found_at xs i row all.1 (omega (arith, low)) is

  pub row_of : (xs : List X) (rows : List Row) (i : ℕ) (row : Row) → AllByRecursion Is xs → rows ≡ map cells xs → i < length rows → row ≡ get_or rows i row → IsRowOf xs i row
  row_of xs rows i row all are low is =
      let inside : i < length xs = omega (arith, low, ap length are, length-map xs cells) in
      let it = found_at xs i row all inside (is ∙ ap (λ rs. get_or rs i row) are) in
      record { element = it.0; is = it.1; typed = it.2; more = take_more xs i it.0 inside ∙ ap (λ x. take i xs ++ x ∷ []) (sym it.3) }
