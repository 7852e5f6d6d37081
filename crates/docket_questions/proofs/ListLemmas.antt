-- Texts, one after the other.
use Rattle.std.proofs.Common.{◌≡◌, ◌∙◌, ℕ, ◌+◌, ◌<◌, suc, List, [], ◌∷◌, ◌++◌, length, take, sym, ap, arith, append-nil, append_assoc}
use Rattle.std.proofs.Math.Seq.{take-length, take-suc}
use Rattle.std.proofs.lemmas.Grind.{flat_map-append}
use Rattle.std.specs.List.{flat_map}
use Rattle.std.specs.Prelude.{get_or}
use Rattle.court_days.specs.Court.{CourtSettings}

-- what stands behind the first of some
module _ {X : Type 0} (f : X → List ℕ) (xs : List X) where
  pub added : (n : ℕ) (x : X) (before : List ℕ) → n < length xs → x ≡ get_or xs n x → (before ++ flat_map f (take n xs)) ++ f x ≡ before ++ flat_map f (take (n + 1) xs)
  added n x before inside is =
      let next : n + 1 ≡ suc n = omega arith in
      append_assoc before (flat_map f (take n xs)) (f x)
      ∙ ap (λ t. before ++ (flat_map f (take n xs) ++ t)) (sym (append-nil (f x)))
      ∙ ap (λ t. before ++ t) (sym (flat_map-append f (take n xs) (x ∷ [])))
      ∙ ap (λ (y : X). before ++ flat_map f (take n xs ++ y ∷ [])) is
      ∙ ap (λ t. before ++ flat_map f t) (sym (take-suc xs n x inside))
      ∙ ap (λ (k : ℕ). before ++ flat_map f (take k xs)) (sym next)

  all_added : (before : List ℕ) → before ++ flat_map f (take (length xs) xs) ≡ before ++ flat_map f xs
  all_added before = ap (λ t. before ++ flat_map f t) (take-length xs)

  pub whole_added : (before : List ℕ) (n : ℕ) → n ≡ length xs → before ++ flat_map f (take n xs) ≡ before ++ flat_map f xs
  whole_added before n all = ap (λ (k : ℕ). before ++ flat_map f (take k xs)) all ∙ all_added before

-- one more text, by the court that the docket had before
pub one_added : {X : Type 0} (f : CourtSettings → X → List ℕ) (now was : CourtSettings) (xs : List X) (n : ℕ) (x : X) → n < length xs → x ≡ get_or xs n x
    → (first before text : List ℕ) → now ≡ was → before ≡ first ++ flat_map (f was) (take n xs) → text ≡ before ++ f now x
    → text ≡ first ++ flat_map (f was) (take (n + 1) xs)
one_added f now was xs n x inside is first before text kept so_far next =
    next
    ∙ ap (λ (court : CourtSettings). before ++ f court x) kept
    ∙ ap (λ (texts : List ℕ). texts ++ f was x) so_far
    ∙ added (f was) xs n x first inside is
