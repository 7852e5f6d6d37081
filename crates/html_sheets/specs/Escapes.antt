-- Texts within HTML: the characters of the markup are written as character references (HTML Living Standard, 13.1.4 on character
-- references, 13.3 on escaping a string). Control characters, which a page may not have but for white space, become blanks.
use Rattle.std.specs.Prelude.{ℕ, Bool, true, false, not, ◌&&◌, ◌||◌, ◌==◌, nat_lt, if◌then◌else◌, List, [], ◌∷◌, codes}
use Rattle.std.specs.List.{flat_map}

-- a control byte: one below 32 but tab, and DEL
unfoldable pub is_control : ℕ → Bool
is_control byte = (nat_lt byte 32 && not (byte == 9)) || byte == 127

-- a blank for a control byte
unfoldable pub blanked_byte : ℕ → ℕ
blanked_byte byte = if is_control byte then 32 else byte

-- what is written for a byte of a text: a reference for each of `<`, `>`, `&`, `"` and `'`
unfoldable pub escaped_byte : ℕ → List ℕ
escaped_byte byte =
    if byte == 60 then codes "&lt;"
    else (if byte == 62 then codes "&gt;"
    else (if byte == 38 then codes "&amp;"
    else (if byte == 34 then codes "&quot;"
    else (if byte == 39 then codes "&#39;"
    else blanked_byte byte ∷ []))))

abbrev pub escaped : List ℕ → List ℕ
escaped text = flat_map escaped_byte text

-- a text of several lines: each of them is escaped, and stays a line
unfoldable pub lined_byte : ℕ → List ℕ
lined_byte byte = if byte == 10 then 10 ∷ [] else escaped_byte byte

abbrev pub lined : List ℕ → List ℕ
lined text = flat_map lined_byte text

-- either of them: whether the lines stay
abbrev pub written_byte : Bool → ℕ → List ℕ
written_byte true = lined_byte
written_byte false = escaped_byte
