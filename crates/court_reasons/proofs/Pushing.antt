-- Days that are added one by one.
use Rattle.std.proofs.Common.{◌≡◌, ℕ, ◌+◌, ◌-◌, List, [], ◌∷◌, ◌++◌, refl, sym, ap, ◌∙◌, append_assoc, arith}
use Rattle.std.proofs.lemmas.List.FromFn.{map-range_with_len_more}
use Rattle.court_reasons.specs.declared.cause.Causes.{Causes}
use Rattle.court_reasons.specs.declared.step.Step.{Step}
use Rattle.court_reasons.specs.declared.step.Step.TheVariants as step
use Rattle.court_reasons.specs.Steps.{days_passed, days_passed_back}

-- a list with one item more
one_more : (old steps pushed front whole : List Step) (item : Step) → steps ≡ old ++ front → pushed ≡ steps ++ item ∷ [] → whole ≡ front ++ item ∷ [] → pushed ≡ old ++ whole
one_more old steps pushed front whole item e p w =
    p ∙ ap (λ s. s ++ item ∷ []) e ∙ append_assoc old front (item ∷ []) ∙ ap (λ s. old ++ s) (sym w)

item_is : (causes : ℕ → Causes) (day at : ℕ) (c : Causes) → day ≡ at → c ≡ causes day → step.Passed day c ≡ step.Passed at (causes at)
item_is causes day at c e k = ap (λ x. step.Passed day x) k ∙ ap (λ d. step.Passed d (causes d)) e

pub passed_more : (causes : ℕ → Causes) (old steps pushed : List Step) (from n day : ℕ) (c : Causes) → day ≡ from + n → c ≡ causes day → steps ≡ old ++ days_passed causes from n → pushed ≡ steps ++ step.Passed day c ∷ [] → pushed ≡ old ++ days_passed causes from (n + 1)
passed_more causes old steps pushed from n day c e k s p =
    one_more old steps pushed (days_passed causes from n) (days_passed causes from (n + 1)) (step.Passed (from + n) (causes (from + n))) s
    (p ∙ ap (λ x. steps ++ x ∷ []) (item_is causes day (from + n) c e k))
    (map-range_with_len_more (λ day. step.Passed day (causes day)) from n (from + n) refl)

pub passed_back_more : (causes : ℕ → Causes) (old steps pushed : List Step) (from n day : ℕ) (c : Causes) → day ≡ from - n → c ≡ causes day → steps ≡ old ++ days_passed_back causes from n → pushed ≡ steps ++ step.Passed day c ∷ [] → pushed ≡ old ++ days_passed_back causes from (n + 1)
passed_back_more causes old steps pushed from n day c e k s p =
    one_more old steps pushed (days_passed_back causes from n) (days_passed_back causes from (n + 1)) (step.Passed (from - n) (causes (from - n))) s
    (p ∙ ap (λ x. steps ++ x ∷ []) (item_is causes day (from - n) c e k))
    (map-range_with_len_more (λ n. step.Passed (from - n) (causes (from - n))) 0 n n zero_plus)
  where
    zero_plus : 0 + n ≡ n
    zero_plus = omega arith
