-- A part is in a text just where the test finds it.
use Rattle.std.proofs.Common.{◌≡◌, ◌∙◌, ◌↔◌, inl, inr, ℕ, Bool, true, List, [], ◌∷◌, ◌++◌, length, take, drop, sym, ap, take-append-drop}
use Rattle.std.specs.Str.Iter.{HasSubslice}
use Rattle.std.proofs.Math.Seq.{take-append_seam}
use Rattle.std.proofs.lemmas.Bool.{or_cases, or_left, or_right}
use Rattle.std.proofs.lemmas.Bool.Decides.{same_from_decides}
use Rattle.std.proofs.lemmas.Slice.Eq.{bytes_eq-Decides}
use Rattle.docket_questions.specs.Searches.{begins, holds}

module _ (part : List ℕ) where
  begun : (text : List ℕ) → begins part text ≡ true → HasSubslice text part
  begun text e = ([], drop (length part) text, sym (take-append-drop (length part) text) ∙ ap (λ l. l ++ drop (length part) text) ((bytes_eq-Decides (take (length part) text) part).0 e))

  begins_with : (text rest : List ℕ) → text ≡ part ++ rest → begins part text ≡ true
  begins_with text rest is = (bytes_eq-Decides (take (length part) text) part).1 (ap (take (length part)) is ∙ take-append_seam part rest)

  later : (byte : ℕ) (text : List ℕ) → HasSubslice text part → HasSubslice (byte ∷ text) part
  later byte text (a, b, is) = (byte ∷ a, b, ap (λ l. byte ∷ l) is)

  stands : (text : List ℕ) → holds part text ≡ true → HasSubslice text part
  stands [] e = begun [] e
  stands (byte ∷ text) e =
      elim (or_cases (begins part (byte ∷ text)) (holds part text) e) [
        | inl here ↦ begun (byte ∷ text) here
        | inr there ↦ later byte text (stands text there)
      ]

  rest_of : List ℕ → List ℕ
  rest_of [] = []
  rest_of (byte ∷ text) = text

  found : (text a b : List ℕ) → text ≡ a ++ (part ++ b) → holds part text ≡ true
  unfolding rest_of
  found [] [] b is = begins_with [] b is
  found [] (x ∷ a) b is = absurd (cc)
  found (byte ∷ text) [] b is = or_left (begins part (byte ∷ text)) (holds part text) (begins_with (byte ∷ text) b is)
  found (byte ∷ text) (x ∷ a) b is = or_right (begins part (byte ∷ text)) (holds part text) (found text a b (ap rest_of is))

  pub holds-means : (text : List ℕ) → (holds part text ≡ true) ↔ HasSubslice text part
  holds-means text = (stands text, λ (a, b, is). found text a b is)

-- a test that decides this is the same test
pub holds-is : (test : Bool) (part text : List ℕ) → (test ≡ true) ↔ HasSubslice text part → test ≡ holds part text
holds-is test part text means = same_from_decides test (holds part text) means (holds-means part text)
