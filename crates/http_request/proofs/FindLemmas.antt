-- The end of a head that stands at the front of an input is found.
use Rattle.std.proofs.Common.{◌≡◌, ◌≢◌, inl, inr, ℕ, ◌+◌, ◌<◌, ◌≤◌, List, [], ◌∷◌, ◌++◌, length, refl, ap, ◌∙◌, cond, append_assoc, length-append, arith}
use Rattle.std.proofs.lemmas.Bool.{lt-ltb, ne_eqb}
use Rattle.std.proofs.lemmas.Bool.Decides.{eqb_tells}
use Rattle.std.specs.List.{flat_map, AllByRecursion}
use Rattle.http_request.specs.declared.head.Scan.{Scan}
use Rattle.http_request.specs.declared.head.HeadSearch.TheVariants.{More, Head, TooLong}
use Rattle.http_request.specs.declared.head.Line.{Line}
use Rattle.http_request.specs.declared.head.Line.TheVariants.{Empty, Return, Filled}
use Rattle.http_request.specs.Head.{found_over, and_then, found_with, go_on, line_ended, grown, head_of}
use Rattle.http_request.specs.Lines.{IsEmptyLine, IsFilledLine, ended, IsHeadWithin}

-- at the beginning of a line
abbrev pub at_line : ℕ → ℕ → Scan
at_line len lines = record { len = len; lines = lines; line = Empty }

abbrev pub within_line : ℕ → ℕ → Line → Scan
within_line len lines line = record { len = len; lines = lines; line = line }

open_goes : (s : Scan) → s.len < 8192 → go_on s ≡ More s
open_goes s less = ap (λ v. cond v (More s) TooLong) (lt-ltb s.len 8192 less)

-- a byte within a line
byte_goes : (line : Line) (len lines b : ℕ) → b ≢ 10 → len + 1 < 8192 → found_with (within_line len lines line) b ≡ More (within_line (len + 1) lines (grown line b))
byte_goes line len lines b other less =
    ap (λ v. cond v (line_ended (len + 1) lines line) (go_on (within_line (len + 1) lines (grown line b)))) (ne_eqb b 10 other)
    ∙ open_goes (within_line (len + 1) lines (grown line b)) less

goes_on : (line : Line) (len lines b : ℕ) (rest : List ℕ) → b ≢ 10 → len + 1 < 8192
    → found_over (within_line len lines line) (b ∷ rest) ≡ found_over (within_line (len + 1) lines (grown line b)) rest
goes_on line len lines b rest other less = ap (λ f. and_then f (λ t. found_over t rest)) (byte_goes line len lines b other less)

-- the end of a line that is not empty
filled_ends : (len lines : ℕ) (rest : List ℕ) → len + 1 < 8192 → lines + 1 < 66
    → found_over (within_line len lines Filled) (10 ∷ rest) ≡ found_over (at_line (len + 1) (lines + 1)) rest
filled_ends len lines rest less few =
    ap (λ v. and_then (cond v TooLong (go_on (at_line (len + 1) (lines + 1)))) (λ t. found_over t rest)) (ne_eqb (lines + 1) 66 (λ e. absurd (omega (arith, e, few))))
    ∙ ap (λ f. and_then f (λ t. found_over t rest)) (open_goes (at_line (len + 1) (lines + 1)) less)

rest_of_line : (x : List ℕ) (len lines end : ℕ) (rest : List ℕ) → AllByRecursion (λ b. b ≢ 10) x → end ≡ len + (length x + 1) → end < 8192 → lines + 1 < 66
    → found_over (within_line len lines Filled) (x ++ 10 ∷ rest) ≡ found_over (at_line end (lines + 1)) rest
rest_of_line [] len lines end rest all same less few =
    let here : len + 1 ≡ end = omega (arith, same) in
    filled_ends len lines rest (omega (arith, same, less)) few ∙ ap (λ k. found_over (at_line k (lines + 1)) rest) here
rest_of_line (b ∷ x) len lines end rest all same less few =
    goes_on Filled len lines b (x ++ 10 ∷ rest) all.0 (omega (arith, same, less))
    ∙ rest_of_line x (len + 1) lines end rest all.1 (omega (arith, same)) less few

-- behind a CR at the front of a line
behind_return : (x : List ℕ) (len lines end : ℕ) (rest : List ℕ) → AllByRecursion (λ b. b ≢ 10) x → x ≢ [] → end ≡ len + (length x + 1) → end < 8192 → lines + 1 < 66
    → found_over (within_line len lines Return) (x ++ 10 ∷ rest) ≡ found_over (at_line end (lines + 1)) rest
behind_return [] len lines end rest all some same less few = absurd (some refl)
behind_return (b ∷ x) len lines end rest all some same less few =
    goes_on Return len lines b (x ++ 10 ∷ rest) all.0 (omega (arith, same, less))
    ∙ rest_of_line x (len + 1) lines end rest all.1 (omega (arith, same)) less few

filled_line : (line : List ℕ) (len lines end : ℕ) (rest : List ℕ) → IsFilledLine line → end ≡ len + (length line + 1) → end < 8192 → lines + 1 < 66
    → found_over (at_line len lines) (line ++ 10 ∷ rest) ≡ found_over (at_line end (lines + 1)) rest
filled_line [] len lines end rest filled same less few = absurd (filled.not_empty (inl refl))
filled_line (b ∷ x) len lines end rest filled same less few =
    goes_on Empty len lines b (x ++ 10 ∷ rest) filled.no_feed.0 (omega (arith, same, less))
    ∙ elim (eqb_tells b 13) [
      | inl is_return ↦
          ap (λ v. found_over (within_line (len + 1) lines (cond v Return Filled)) (x ++ 10 ∷ rest)) is_return.0
          ∙ behind_return x (len + 1) lines end rest filled.no_feed.1 (λ nothing. filled.not_empty (inr (ap (λ z. b ∷ z) nothing ∙ ap (λ z. z ∷ []) is_return.1)))
          (omega (arith, same)) less few
      | inr is_other ↦
          ap (λ v. found_over (within_line (len + 1) lines (cond v Return Filled)) (x ++ 10 ∷ rest)) is_other.0
          ∙ rest_of_line x (len + 1) lines end rest filled.no_feed.1 (omega (arith, same)) less few
    ]

-- an empty line in front of the others
empty_line : (line : List ℕ) (len end : ℕ) (rest : List ℕ) → IsEmptyLine line → end ≡ len + (length line + 1) → end < 8192
    → found_over (at_line len 0) (line ++ 10 ∷ rest) ≡ found_over (at_line end 0) rest
empty_line line len end rest (inl e) same less =
    let size : length line ≡ 0 = ap length e in
    let here : len + 1 ≡ end = omega (arith, same, size) in
    ap (λ x. found_over (at_line len 0) (x ++ 10 ∷ rest)) e
    ∙ ap (λ f. and_then f (λ t. found_over t rest)) (open_goes (at_line (len + 1) 0) (omega (arith, same, size, less)))
    ∙ ap (λ k. found_over (at_line k 0) rest) here
empty_line line len end rest (inr e) same less =
    let size : length line ≡ 1 = ap length e in
    let here : len + 1 + 1 ≡ end = omega (arith, same, size) in
    ap (λ x. found_over (at_line len 0) (x ++ 10 ∷ rest)) e
    ∙ goes_on Empty len 0 13 (10 ∷ rest) (λ e. absurd (omega (arith, e))) (omega (arith, same, size, less))
    ∙ ap (λ f. and_then f (λ t. found_over t rest)) (open_goes (at_line (len + 1 + 1) 0) (omega (arith, same, size, less)))
    ∙ ap (λ k. found_over (at_line k 0) rest) here

-- the empty line that ends the head
last_line : (line : List ℕ) (len lines end : ℕ) (rest : List ℕ) → IsEmptyLine line → end ≡ len + (length line + 1) → end ≤ 8192 → 0 < lines
    → found_over (at_line len lines) (line ++ 10 ∷ rest) ≡ Head end
last_line line len lines end rest (inl e) same less some =
    let size : length line ≡ 0 = ap length e in
    let here : len + 1 ≡ end = omega (arith, same, size) in
    ap (λ x. found_over (at_line len lines) (x ++ 10 ∷ rest)) e
    ∙ ap (λ v. and_then (cond v (go_on (at_line (len + 1) 0)) (Head (len + 1))) (λ t. found_over t rest)) (ne_eqb lines 0 (λ none. absurd (omega (arith, none, some))))
    ∙ ap (λ k. Head k) here
last_line line len lines end rest (inr e) same less some =
    let size : length line ≡ 1 = ap length e in
    let here : len + 1 + 1 ≡ end = omega (arith, same, size) in
    ap (λ x. found_over (at_line len lines) (x ++ 10 ∷ rest)) e
    ∙ goes_on Empty len lines 13 (10 ∷ rest) (λ e. absurd (omega (arith, e))) (omega (arith, same, size, less))
    ∙ ap (λ v. and_then (cond v (go_on (at_line (len + 1 + 1) 0)) (Head (len + 1 + 1))) (λ t. found_over t rest)) (ne_eqb lines 0 (λ none. absurd (omega (arith, none, some))))
    ∙ ap (λ k. Head k) here

-- a line with its end, and what comes behind it
line_and_rest : (line others rest : List ℕ) → (ended line ++ others) ++ rest ≡ line ++ 10 ∷ (others ++ rest)
line_and_rest line others rest = append_assoc (ended line) others rest ∙ append_assoc line (10 ∷ []) (others ++ rest)

size_of : (line : List ℕ) (lines : List (List ℕ)) → length (flat_map ended (line ∷ lines)) ≡ length line + 1 + length (flat_map ended lines)
size_of line lines = length-append (ended line) (flat_map ended lines) ∙ ap (λ k. k + length (flat_map ended lines)) (length-append line (10 ∷ []))

empty_lines : (lines : List (List ℕ)) (len end : ℕ) (rest : List ℕ) → AllByRecursion IsEmptyLine lines → end ≡ len + length (flat_map ended lines) → end < 8192
    → found_over (at_line len 0) (flat_map ended lines ++ rest) ≡ found_over (at_line end 0) rest
empty_lines [] len end rest all same less = let here : len ≡ end = omega (arith, same) in ap (λ k. found_over (at_line k 0) rest) here
empty_lines (line ∷ lines) len end rest all same less =
    let size = size_of line lines in
    ap (λ x. found_over (at_line len 0) x) (line_and_rest line (flat_map ended lines) rest)
    ∙ empty_line line len (len + (length line + 1)) (flat_map ended lines ++ rest) all.0 refl (omega (arith, same, size, less))
    ∙ empty_lines lines (len + (length line + 1)) end rest all.1 (omega (arith, same, size)) less

filled_lines : (lines : List (List ℕ)) (len before end : ℕ) (rest : List ℕ) → AllByRecursion IsFilledLine lines → end ≡ len + length (flat_map ended lines) → end < 8192
    → before + length lines < 66 → found_over (at_line len before) (flat_map ended lines ++ rest) ≡ found_over (at_line end (before + length lines)) rest
filled_lines [] len before end rest all same less few =
    let here : len ≡ end = omega (arith, same) in
    let none : before ≡ before + 0 = omega arith in
    ap (λ k. found_over (at_line k before) rest) here ∙ ap (λ k. found_over (at_line end k) rest) none
filled_lines (line ∷ lines) len before end rest all same less few =
    let size = size_of line lines in
    let sum : before + 1 + length lines ≡ before + length (line ∷ lines) = omega arith in
    ap (λ x. found_over (at_line len before) x) (line_and_rest line (flat_map ended lines) rest)
    ∙ filled_line line len before (len + (length line + 1)) (flat_map ended lines ++ rest) all.0 refl (omega (arith, same, size, less)) (omega (arith, few))
    ∙ filled_lines lines (len + (length line + 1)) (before + 1) end rest all.1 (omega (arith, same, size)) less (omega (arith, few))
    ∙ ap (λ k. found_over (at_line end k) rest) sum

-- the end of a head is found
pub head_found : (bytes rest : List ℕ) → IsHeadWithin bytes → head_of (bytes ++ rest) ≡ Head (length bytes)
head_found bytes rest within =
    let is = within.head in
    let front = length (flat_map ended is.leading) in
    let middle = length (flat_map ended is.filled) in
    let size : length bytes ≡ front + (middle + (length is.last + 1)) =
    ap length is.lines ∙ length-append (flat_map ended is.leading) (flat_map ended is.filled ++ ended is.last)
    ∙ ap (λ k. front + k) (length-append (flat_map ended is.filled) (ended is.last) ∙ ap (λ k. middle + k) (length-append is.last (10 ∷ []))) in
    let short = within.short in
    let few = within.few in
    let some = is.some_filled in
    ap (λ x. head_of (x ++ rest)) is.lines
    ∙ ap (λ x. head_of x) (append_assoc (flat_map ended is.leading) (flat_map ended is.filled ++ ended is.last) rest
    ∙ ap (λ x. flat_map ended is.leading ++ x) (append_assoc (flat_map ended is.filled) (ended is.last) rest
    ∙ ap (λ x. flat_map ended is.filled ++ x) (append_assoc is.last (10 ∷ []) rest)))
    ∙ empty_lines is.leading 0 front _ is.leading_empty (omega arith) (omega (arith, size, short))
    ∙ filled_lines is.filled front 0 (front + middle) _ is.filled_so refl (omega (arith, size, short)) (omega (arith, few))
    ∙ last_line is.last (front + middle) (0 + length is.filled) (length bytes) rest is.last_empty (omega (arith, size)) within.short (omega (arith, some))
