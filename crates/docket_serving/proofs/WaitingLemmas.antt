-- Which waiting connection is taken out, and what is known of the others.
use Rattle.std.proofs.Common.{◌≡◌, ◌∙◌, ◌<◌, ◌+◌, ◌⊎◌, inl, inr, ℕ, suc, List, ◌∷◌, ◌++◌, length, map, take, drop, get_or, set, sym, ap, subst, drop-cons, take-append-drop, eq-or-lt_of_le, ne_of_lt, arith}
use Rattle.std.proofs.lemmas.List.{get_or-set_same, get_or-set_other, map-append}
use Rattle.docket_serving.specs.Waiting.{IsTakenOut}

module _ {A B : Type 0} (f : A → B) where
  -- a list is what stands before a place, what stands there, and the rest
  parts : (xs : List A) (at : ℕ) (d : A) → at < length xs → map f xs ≡ map f (take at xs) ++ f (get_or xs at d) ∷ map f (drop (at + 1) xs)
  parts xs at d within =
      let one : suc at ≡ at + 1 = omega arith in
      ap (map f) (sym (take-append-drop at xs) ∙ ap (λ rest. take at xs ++ rest) (drop-cons xs at d within ∙ ap (λ (n : ℕ). get_or xs at d ∷ drop n xs) one))
      ∙ map-append f (take at xs) (get_or xs at d ∷ drop (at + 1) xs)

  pub taken_out : (old xs new : List A) (at : ℕ) (one : A) → at < length xs → map f xs ≡ map f old → one ≡ get_or xs at one
      → new ≡ take at xs ++ drop (at + 1) xs → IsTakenOut (f one) (map f old) (map f new)
  taken_out old xs new at one within same is rest = (
    map f (take at xs),
    map f (drop (at + 1) xs),
    sym same ∙ parts xs at one within ∙ ap (λ (o : A). map f (take at xs) ++ f o ∷ map f (drop (at + 1) xs)) (sym is),
    ap (map f) rest ∙ map-append f (take at xs) (drop (at + 1) xs),
  )

module _ {A : Type 0} (P : A → Type 0) (xs : List A) (at : ℕ) (y : A) (within : at < length xs) (below : (k : ℕ) → (d : A) → k < at → P (get_or xs k d)) (last : P y) where
  by_place : (k : ℕ) (d : A) → (k ≡ at) ⊎ (k < at) → P (get_or (set xs at y) k d)
  by_place k d (inl same) = subst P (sym (ap (λ (j : ℕ). get_or (set xs at y) j d) same ∙ get_or-set_same xs at y d within)) last
  by_place k d (inr under) = subst P (sym (get_or-set_other xs at k y d (ne_of_lt under))) (below k d under)

  -- what is so of all before a place is so up to it, once it is so of what was put there
  pub one_more : (k : ℕ) → (d : A) → k < at + 1 → P (get_or (set xs at y) k d)
  one_more k d less = by_place k d (eq-or-lt_of_le (omega arith))
