-- Values of the type TEXT (RFC 5545, section 3.3.11), and how they are read.
use Rattle.std.specs.Prelude.{◌≡◌, ◌≢◌, ℕ, ◌==◌, Bool, true, false, not, ◌&&◌, ◌||◌, nat_lt, if◌then◌else◌, List, [], ◌∷◌, map}
use Rattle.std.specs.List.{flat_map, AllByRecursion}

abbrev pub begins_with_feed : List ℕ → Bool
begins_with_feed [] = false
begins_with_feed (b ∷ bytes) = b == 10

-- a line break is LF, CR or CR LF: of CR LF the LF alone
abbrev pub single_breaks : List ℕ → List ℕ
single_breaks [] = []
single_breaks (b ∷ bytes) = if b == 13 && begins_with_feed bytes then single_breaks bytes else b ∷ single_breaks bytes

-- the standard forbids control bytes: below 32, but tab, and 127
abbrev pub is_control : ℕ → Bool
is_control b = nat_lt b 32 && not (b == 9) || b == 127

-- a line break becomes LF, and every other control byte a blank
abbrev pub plain_byte : ℕ → ℕ
plain_byte b = if b == 10 || b == 13 then 10 else (if is_control b then 32 else b)

-- the text that a value reads back as
unfoldable pub plain_text : List ℕ → List ℕ
plain_text text = map plain_byte (single_breaks text)

-- LF becomes \n, and a backslash, a semicolon and a comma have a backslash before them
abbrev pub escaped_byte : ℕ → List ℕ
escaped_byte b =
    if b == 10 then 92 ∷ 110 ∷ []
    else (if b == 92 || b == 59 || b == 44 then 92 ∷ b ∷ [] else b ∷ [])

-- the value of a text
unfoldable pub text_value : List ℕ → List ℕ
text_value text = flat_map escaped_byte (plain_text text)

-- how a value is read: behind a backslash, n or N is LF, and any other byte itself
abbrev pub meant_byte : ℕ → ℕ
meant_byte b = if b == 110 || b == 78 then 10 else b

abbrev pub read_behind : Bool → List ℕ → List ℕ
read_behind backslash [] = []
read_behind true (b ∷ bytes) = meant_byte b ∷ read_behind false bytes
read_behind false (b ∷ bytes) = if b == 92 then read_behind true bytes else b ∷ read_behind false bytes

unfoldable pub read_value : List ℕ → List ℕ
read_value value = read_behind false value

-- no byte ends a line
abbrev pub IsInLine : ℕ → Type 0
IsInLine b = (b ≢ 10) × (b ≢ 13)

abbrev pub HasNoBreak : List ℕ → Type 0
HasNoBreak bytes = AllByRecursion IsInLine bytes

-- each line break of a text is LF, and it has no other control byte
abbrev pub IsPlain : List ℕ → Type 0
IsPlain text = AllByRecursion (λ b. plain_byte b ≡ b) text
