-- Two lists of the same entries, read from either side.
use Rattle.std.proofs.Common.{◌≡◌, ℕ, zero, suc, ◌<◌, List, [], ◌∷◌, map, length, get_or, Bool, true, false, cond, Option, Some, refl, ap, arith}
use Rattle.std.specs.List.{find, slice_get}
use Rattle.std.specs.Option.{option_map}

module _ {A B C : Type 0} (f : A → C) (g : B → C) where
  -- the entries at a place
  pub entry_at : (xs : List A) (ys : List B) (k : ℕ) (y : B) (d : A) → map f xs ≡ map g ys → slice_get ys k ≡ Some y
      → (k < length xs) × (f (get_or xs k d) ≡ g y)
  entry_at [] [] k y d e s = absurd (cc)
  entry_at [] (b ∷ ys) k y d e s = absurd (cc)
  entry_at (a ∷ xs) [] k y d e s = absurd (cc)
  entry_at (a ∷ xs) (b ∷ ys) zero y d e s = (omega arith, cc)
  entry_at (a ∷ xs) (b ∷ ys) (suc k) y d e s =
      let tails : map f xs ≡ map g ys = cc in
      let rest = entry_at xs ys k y d tails s in
      (omega (arith, rest.0), rest.1)

  choice : (s t : Bool) (a : A) (b : B) (m : Option A) (n : Option B) → s ≡ t → f a ≡ g b
      → option_map f m ≡ option_map g n → option_map f (cond s (Some a) m) ≡ option_map g (cond t (Some b) n)
  choice true true a b m n e h r = ap Some h
  choice false false a b m n e h r = r
  choice true false a b m n e h r = cc
  choice false true a b m n e h r = cc

  -- what is found
  pub found : (p : C → Bool) (xs : List A) (ys : List B) → map f xs ≡ map g ys
      → option_map f (find (λ x. p (f x)) xs) ≡ option_map g (find (λ y. p (g y)) ys)
  found p [] [] e = refl
  found p [] (b ∷ ys) e = cc
  found p (a ∷ xs) [] e = cc
  found p (a ∷ xs) (b ∷ ys) e =
      let first : f a ≡ g b = cc in
      let tails : map f xs ≡ map g ys = cc in
      choice (p (f a)) (p (g b)) a b _ _ (ap p first) first (found p xs ys tails)
