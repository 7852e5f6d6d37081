-- What is left of a text behind a word.
use Rattle.std.proofs.Common.{◌≡◌, ◌≢◌, ℕ, List, [], ◌∷◌, ◌++◌, drop, Option, Some, None, MatchOption, option_copied, refl, ap, sym, ◌∙◌, eq-eqb, cond}
use Rattle.std.specs.Str.Pattern.{FindsTextPrefix, StripsPrefix}
use denote.Ref.{Bor}
use Rattle.http_request.specs.Path.{behind}
use Rattle.http_request.proofs.PlaceLemmas.{behind-is}

behind-append : (word rest : List ℕ) → behind word (word ++ rest) ≡ Some rest
behind-append [] rest = refl
behind-append (x ∷ word) rest = ap (λ v. cond v (behind word (word ++ rest)) None) (eq-eqb x x refl) ∙ behind-append word rest

behind-none : (word text : List ℕ) (o : Option (List ℕ)) → behind word text ≡ o → ((rest : List ℕ) → text ≢ word ++ rest) → None ≡ behind word text
behind-none word text None e h = sym e
behind-none word text (Some rest) e h = absurd (h rest (behind-is word text rest e))

-- what is left once the word is stripped
pub stripped : (word text : List ℕ) (left : Option (Bor (List ℕ)))
    → MatchOption left ((rest : List ℕ) → text ≢ word ++ rest) (λ x. StripsPrefix (FindsTextPrefix word) text x.now)
    → option_copied left ≡ behind word text
stripped word text None h = behind-none word text (behind word text) refl h
stripped word text (Some x) (n, found, is, size) =
    ap (λ rest. Some rest) is ∙ sym (behind-append word (drop n text)) ∙ ap (λ t. behind word t) (sym found.1)
