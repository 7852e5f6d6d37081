-- The words of a search, as they are kept and as they are read.
use Rattle.std.proofs.Common.{◌≡◌, ℕ, ◌+◌, ◌-◌, ◌==◌, ◌<◌, ◌≤◌, List, ◌++◌, length, map, take, drop, replicate, take_at, length-append, Some, None, IsUtf8, Bool, true, false, cond, ap, ap₂, sym, subst, ◌∙◌, arith}
use Rattle.std.specs.Prelude.{◌&&◌, nat_lt, nat_le}
use Rattle.std.specs.Str.{is_utf8}
use Rattle.std.proofs.lemmas.Str.{is_utf8-from_IsUtf8, IsUtf8-from_is_utf8}
use Rattle.std.proofs.lemmas.List.{length-map, length-replicate, drop-replicate}
use Rattle.std.proofs.lemmas.Bool.{and_parts, false_from_ne_true}
use Rattle.std.proofs.lemmas.Bool.Decides.{nat_tests}
use Rattle.form_urlencoded.specs.Form.{decode, plus_to_space}
use Rattle.percent_encoding.proofs.PercentLemmas.{length-percent_decode}
use Rattle.http_request.specs.Search.{are_words, padded, words_in}

-- a text that is copied to the beginning of 100 zeros
pub kept : (text copied : List ℕ) → length text ≤ 100 → copied ≡ text → IsUtf8 text →
    let bytes : List ℕ = copied ++ drop (length text) (replicate 100 0) in
    (length text ≤ 100) × (length bytes ≡ 100) × IsUtf8 (take (length text) bytes) × (bytes ≡ padded (length text) (take (length text) bytes))
kept text copied fits same is =
    let rest : drop (length text) (replicate 100 0) ≡ replicate (100 - length text) 0 = drop-replicate (length text) 100 0 in
    let front : take (length text) (copied ++ drop (length text) (replicate 100 0)) ≡ copied = take_at copied _ (length text) (ap length same) in
    let size : length copied ≡ length text = ap length same in
    let total : length (copied ++ drop (length text) (replicate 100 0)) ≡ length copied + length (drop (length text) (replicate 100 0)) = length-append copied _ in
    let left : length (drop (length text) (replicate 100 0)) ≡ 100 - length text = ap length rest ∙ length-replicate (100 - length text) 0 in
    (fits, omega (arith, size, total, left), subst IsUtf8 (sym (front ∙ same)) is, ap₂ (λ (x y : List ℕ). x ++ y) (sym front) rest)

-- a value of more than 300 bytes stands for more than 100
pub too_long : (value : List ℕ) → 300 < length value → 100 < length (decode value)
too_long value long =
    let decoded = (length-percent_decode (map plus_to_space value)).1 in
    let size = length-map value plus_to_space in
    omega (arith, decoded, size, long)

-- bytes are words exactly if the value that stands for them is one of words
found_if : (value bytes : List ℕ) (v : Bool) → bytes ≡ decode value → are_words bytes ≡ v → cond v (Some bytes) None ≡ words_in value
found_if value bytes v same is =
    ap (λ b. cond b (Some bytes) None) (sym is) ∙ ap (λ xs. cond (are_words xs) (Some xs) None) same

-- a text of 1 to 100 bytes
pub found : (value bytes text : List ℕ) → bytes ≡ decode value → text ≡ bytes → IsUtf8 bytes → length bytes ≤ 100 → false ≡ (length text == 0) → Some text ≡ words_in value
found value bytes text same is_text utf8 fits some =
    let is : are_words text ≡ true = grind (arith, nat_tests, is_utf8-from_IsUtf8 bytes utf8, is_text, fits, some) in
    found_if value text true (is_text ∙ same) is

-- bytes that are no text
pub no_text : (value bytes : List ℕ) → bytes ≡ decode value → ¬ (IsUtf8 bytes) → None ≡ words_in value
no_text value bytes same none =
    found_if value bytes false same (false_from_ne_true _ (λ is. none (IsUtf8-from_is_utf8 bytes (and_parts (nat_lt 0 (length bytes) && nat_le (length bytes) 100) (is_utf8 bytes) is).1)))
