-- The words of a search: the query is a form of one pair, whose name is `find` and whose value they are (URL Standard, section 5.1).
use Rattle.std.specs.Prelude.{ℕ, ◌-◌, List, [], ◌∷◌, ◌++◌, length, replicate, Option, Some, None, Bool, ◌&&◌, nat_lt, nat_le, bytes_eq, if◌then◌else◌, codes, option_and_then}
use Rattle.std.specs.Str.{is_utf8}
use Rattle.form_urlencoded.specs.Form.{decode, raw_pairs}

-- the text of words as it is kept: zeros stand behind it, up to 100 bytes
abbrev pub padded : ℕ → List ℕ → List ℕ
padded len text = text ++ replicate (100 - len) 0

-- the value of the one pair of a form
abbrev pub find_value : List (List ℕ × List ℕ) → Option (List ℕ)
find_value [] = None
find_value (pair ∷ []) = if bytes_eq pair.0 (codes "find") then Some pair.1 else None
find_value (pair ∷ other ∷ pairs) = None

-- 1 to 100 bytes, which are UTF-8
abbrev pub are_words : List ℕ → Bool
are_words bytes = nat_lt 0 (length bytes) && nat_le (length bytes) 100 && is_utf8 bytes

-- the words that a value stands for, once it is decoded
abbrev pub words_in : List ℕ → Option (List ℕ)
words_in value = if are_words (decode value) then Some (decode value) else None

-- the words that a query searches for
abbrev pub words_of : List ℕ → Option (List ℕ)
words_of query = option_and_then words_in (find_value (raw_pairs query))
