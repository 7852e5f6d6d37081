-- Lists that go on: what is found in them stays found.
use Rattle.std.proofs.Common.{◌≡◌, ◌∙◌, ◌+◌, inl, inr, ℕ, zero, suc, Bool, true, false, cond, List, [], ◌∷◌, ◌++◌, Some, slice_get, refl, ap, arith}
use Rattle.std.specs.Prelude.{find}
use Rattle.std.specs.List.{list_any, position_from}
use Rattle.sqlite_rules.specs.Lists.{Has}

module _ {X : Type 0} (p : X → Bool) where
  -- the first that passes, and its place
  pub record Placed (i : ℕ) (xs : List X) : Type 0 where
    pub at : ℕ
    pub element : X
    pub place : position_from p i xs ≡ Some (i + at)
    pub is : slice_get xs at ≡ Some element
    pub passes : p element ≡ true

  later : (i : ℕ) (x : X) (xs : List X) → p x ≡ false → Placed (i + 1) xs → Placed i (x ∷ xs)
  later i x xs other it = record {
    at = suc it.at;
    element = it.element;
    place = ap (λ b. cond b (Some i) (position_from p (i + 1) xs)) other ∙ it.place ∙ ap Some (omega arith);
    is = it.is;
    passes = it.passes;
  }

  here : (i : ℕ) (x : X) (xs : List X) → p x ≡ true → Placed i (x ∷ xs)
  here i x xs passed = record {
    at = 0;
    element = x;
    place = ap (λ b. cond b (Some i) (position_from p (i + 1) xs)) passed ∙ ap Some (omega arith);
    is = refl;
    passes = passed;
  }

  pub placed : (i : ℕ) (xs : List X) → list_any p xs ≡ true → Placed i xs
  placed i [] any = absurd cc
  placed i (x ∷ xs) any = go (placed (i + 1) xs) (p x) refl any
    where
      go : (list_any p xs ≡ true → Placed (i + 1) xs) → (b : Bool) → p x ≡ b → list_any p (x ∷ xs) ≡ true → Placed i (x ∷ xs)
      go rest true e h = here i x xs e
      go rest false e h = later i x xs e (rest (rw e at h))

  pub placed_on : (i k : ℕ) (xs more : List X) → position_from p i xs ≡ Some k → position_from p i (xs ++ more) ≡ Some k
  placed_on i k [] more e = absurd cc
  placed_on i k (x ∷ xs) more e = go (placed_on (i + 1) k xs more) (p x) refl e
    where
      go : (position_from p (i + 1) xs ≡ Some k → position_from p (i + 1) (xs ++ more) ≡ Some k) → (b : Bool) → p x ≡ b
          → cond (p x) (Some i) (position_from p (i + 1) xs) ≡ Some k → cond (p x) (Some i) (position_from p (i + 1) (xs ++ more)) ≡ Some k
      go rest true passed h = rw passed (rw passed at h)
      go rest false other h = rw other (rest (rw other at h))

  -- what is found first is found first still
  pub found_on : (k : ℕ) (x : X) (xs more : List X) → slice_get xs k ≡ Some x → p x ≡ true → find p (xs ++ more) ≡ find p xs
  found_on k x [] more is passed = absurd cc
  found_on zero x (y ∷ xs) more is passed = let same : y ≡ x = cc in rw (same, passed)
  found_on (suc k) x (y ∷ xs) more is passed = ap (cond (p y) (Some y)) (found_on k x xs more is passed)

pub slice_on : {X : Type 0} (k : ℕ) (x : X) (xs more : List X) → slice_get xs k ≡ Some x → slice_get (xs ++ more) k ≡ Some x
slice_on k x [] more is = absurd cc
slice_on zero x (y ∷ xs) more is = is
slice_on (suc k) x (y ∷ xs) more is = slice_on k x xs more is

pub slice_has : {X : Type 0} (k : ℕ) (x : X) (xs : List X) → slice_get xs k ≡ Some x → Has xs x
slice_has k x [] is = absurd cc
slice_has zero x (y ∷ xs) is = inl (let same : x ≡ y = cc in same)
slice_has (suc k) x (y ∷ xs) is = inr (slice_has k x xs is)
