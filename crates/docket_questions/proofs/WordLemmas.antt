-- Words in a text, place by place.
use Rattle.std.proofs.Common.{◌≡◌, ◌∙◌, ◌↔◌, ℕ, ◌+◌, ◌-◌, ◌<◌, ◌≤◌, ◌==◌, ◌||◌, suc, Bool, true, false, List, [], ◌∷◌, length, take, drop, get_or, refl, sym, ap, subst, arith, drop-cons}
use Rattle.std.proofs.lemmas.Bool.Decides.{nat_tests, same_from_decides}
use Rattle.std.proofs.lemmas.List.{drop_all, length-drop, length-map, take-map, take_all, take_min}
use Rattle.std.proofs.lemmas.Slice.Eq.{bytes_eq-Decides}
use Rattle.std.specs.Char.{to_ascii_lowercase}
use Rattle.std.specs.Prelude.{min}
use Rattle.docket_questions.specs.Searches.{begins, folded, has_words, holds}

-- a test of the front of a text
pub begins-is : (test : Bool) (text words front : List ℕ) → front ≡ take (min (length words) (length text)) text → (test ≡ true) ↔ (folded front ≡ folded words)
    → test ≡ begins (folded words) (folded text)
begins-is test text words front is means =
    let same : folded front ≡ take (length (folded words)) (folded text) =
    ap folded (is ∙ take_min (length words) text)
    ∙ sym (take-map to_ascii_lowercase (length words) text)
    ∙ ap (λ (n : ℕ). take n (folded text)) (sym (length-map words to_ascii_lowercase)) in
    same_from_decides test (begins (folded words) (folded text)) (subst (λ (xs : List ℕ). (test ≡ true) ↔ (xs ≡ folded words)) same means)
    (bytes_eq-Decides (take (length (folded words)) (folded text)) (folded words))

module _ (words : List ℕ) where
  abbrev starts : List ℕ → Bool
  starts text = begins (folded words) (folded text)

  abbrev within : List ℕ → Bool
  within text = holds (folded words) (folded text)

  one_on : (x : ℕ) (rest : List ℕ) (b : Bool) → starts (x ∷ rest) ≡ b → within (x ∷ rest) ≡ (b || within rest)
  one_on x rest b is = ap (λ (t : Bool). t || within rest) is

  at_place : (text : List ℕ) (from : ℕ) (b : Bool) → from < length text → starts (drop from text) ≡ b → within (drop from text) ≡ (b || within (drop (from + 1) text))
  at_place text from b inside is =
      let cut : drop from text ≡ get_or text from 0 ∷ drop (suc from) text = drop-cons text from 0 inside in
      let next : from + 1 ≡ suc from = omega arith in
      ap within cut ∙ one_on (get_or text from 0) (drop (suc from) text) b (sym (ap starts cut) ∙ is) ∙ ap (λ (k : ℕ). b || within (drop k text)) (sym next)

  -- the text from a place on
  pub rest_of : (text : List ℕ) (from : ℕ) (b : Bool) → b ≡ starts (take (length text - from) (drop from text)) → b ≡ starts (drop from text)
  rest_of text from b is = is ∙ ap starts (take_all (length text - from) (drop from text) (omega (arith, length-drop from text)))

  -- the words begin at a place
  pub found : (text : List ℕ) (from : ℕ) → from < length text → true ≡ starts (drop from text) → within text ≡ within (drop from text) → true ≡ has_words text words
  found text from inside is so_far = sym (so_far ∙ at_place text from true inside (sym is))

  -- they do not begin there
  pub passed : (text : List ℕ) (from : ℕ) → from < length text → false ≡ starts (drop from text) → within text ≡ within (drop from text) → within text ≡ within (drop (from + 1) text)
  passed text from inside is so_far = so_far ∙ at_place text from false inside (sym is)

  -- they begin at no place
  pub ended : (text : List ℕ) (from : ℕ) → length text ≤ from → within text ≡ within (drop from text) → (length words == 0) ≡ has_words text words
  ended text from all so_far = none words ∙ sym (so_far ∙ ap within (drop_all from text all))
    where
      none : (part : List ℕ) → (length part == 0) ≡ begins (folded part) []
      none [] = refl
      none (x ∷ xs) = grind (arith, nat_tests)
