-- Cutting a line at its first space.
use Rattle.std.proofs.Common.{◌≡◌, ℕ, suc, ◌+◌, ◌-◌, ◌<◌, List, [], ◌∷◌, ◌++◌, length, take, drop, slice_index, Some, None, false, ◌==◌, refl, ap, sym, ◌∙◌, append_assoc, append-nil, add-one, take-append-drop, length-take, arith}
use Rattle.std.proofs.lemmas.Grind.{common_steps}
use Rattle.std.proofs.Math.Seq.{take-suc}
use Rattle.line_io.proofs.Sending.{slice_from}
use Rattle.std.proofs.lemmas.Bool.{eqb-true, eq-eqb, ne_eqb}
use Rattle.memchr.specs.Find.{Nowhere, NoneBefore, Passes, is_byte}
use Rattle.count_lines.specs.Requests.{cut_word}

-- bytes without a space belong to the word
pub word-on : (word xs rest : List ℕ) → ((k : ℕ) → k < length xs → ¬ (slice_index xs k ≡ 32)) → cut_word word (xs ++ rest) ≡ cut_word (word ++ xs) rest
word-on word [] rest free = ap (λ w. cut_word w rest) (sym (append-nil word))
word-on word (b ∷ xs) rest free =
    let test : (b == 32) ≡ false = ne_eqb b 32 (free 0 (omega arith)) in
    let step : cut_word word (b ∷ (xs ++ rest)) ≡ cut_word (word ++ b ∷ []) (xs ++ rest) = rw test refl in
    step ∙ word-on (word ++ b ∷ []) xs rest (λ k below. free (suc k) (omega arith))
    ∙ ap (λ w. cut_word w rest) (append_assoc word (b ∷ []) xs)

pub no-word : (line : List ℕ) → Nowhere (Passes (is_byte 32) line) 0 (length line) → cut_word [] line ≡ None
no-word line h = ap (cut_word []) (sym (append-nil line)) ∙ word-on [] line [] (λ k below e. h k (omega arith) below (eq-eqb (slice_index line k) 32 e))

kept-below : (line : List ℕ) (at k : ℕ) → k < at → slice_index (take at line) k ≡ slice_index line k
kept-below line at k below = grind (arith, common_steps)

below-take : (line : List ℕ) (at k : ℕ) → k < length (take at line) → k < at
below-take line at k h = omega (arith, length-take at line)

-- where the first space stands
pub word-at : (line : List ℕ) (at : ℕ) → NoneBefore (Passes (is_byte 32) line) 0 (length line) at → Passes (is_byte 32) line at
    → cut_word [] line ≡ Some (take at line, take (length line - (at + 1)) (drop (at + 1) line))
word-at line at none is =
    let rest = drop (at + 1) line in
    let space : slice_index line at ≡ 32 = eqb-true (slice_index line at) 32 is in
    let one : take (at + 1) line ≡ take at line ++ 32 ∷ [] = rw add-one (take-suc line at 0 none.high) ∙ ap (λ b. take at line ++ b ∷ []) space in
    let whole : line ≡ take at line ++ (32 ∷ rest) = sym (take-append-drop (at + 1) line) ∙ ap (λ z. z ++ rest) one ∙ append_assoc (take at line) (32 ∷ []) rest in
    let free : (k : ℕ) → k < length (take at line) → ¬ (slice_index (take at line) k ≡ 32) =
    (λ k below e. none.before k (omega arith) (below-take line at k below)
    (eq-eqb (slice_index line k) 32 (sym (kept-below line at k (below-take line at k below)) ∙ e))) in
    ap (cut_word []) whole ∙ word-on [] (take at line) (32 ∷ rest) free ∙ ap (λ z. Some (take at line, z)) (sym (slice_from line (at + 1)))
