-- Content lines and how they are folded (RFC 5545, section 3.1).
use Rattle.std.specs.Prelude.{◌≡◌, ℕ, ◌+◌, ◌==◌, Bool, false, ◌&&◌, ◌||◌, nat_lt, nat_le, if◌then◌else◌, List, [], ◌∷◌, ◌++◌, length, map}
use Rattle.std.specs.List.{slice_split}
use Rattle.icalendar.specs.Texts.{HasNoBreak}

-- how many octets from this one on stay on the same physical line: those of the character that it begins, and within a character it alone
abbrev pub octets_from : ℕ → ℕ
octets_from b = if nat_lt b 192 then 1 else (if nat_lt b 224 then 2 else (if nat_lt b 240 then 3 else 4))

-- behind `at` octets of the physical line, what would pass 75 goes to the next, behind CR LF and a blank
abbrev pub folded_from : ℕ → List ℕ → List ℕ
folded_from at [] = []
folded_from at (b ∷ bytes) =
    if nat_le (at + octets_from b) 75 then b ∷ folded_from (at + 1) bytes
    else 13 ∷ 10 ∷ 32 ∷ b ∷ folded_from 2 bytes

-- CR LF behind a line
abbrev pub ended : List ℕ → List ℕ
ended line = line ++ 13 ∷ 10 ∷ []

-- a content line, folded, with the end of its last physical line
unfoldable pub content_line : List ℕ → List ℕ
content_line line = ended (folded_from 0 line)

-- NAME:VALUE
abbrev pub named : List ℕ → List ℕ → List ℕ
named name value = name ++ 58 ∷ value

-- a blank or a tab
abbrev pub is_blank : ℕ → Bool
is_blank b = b == 32 || b == 9

abbrev pub begins_blank : List ℕ → Bool
begins_blank [] = false
begins_blank (b ∷ bytes) = is_blank b

-- what may be a content line before it is folded
abbrev pub IsLine : List ℕ → Type 0
IsLine line = HasNoBreak line × (begins_blank line ≡ false)

-- how a text is read: each CR LF with a blank or a tab behind it is taken out
abbrev pub is_fold : ℕ → ℕ → ℕ → Bool
is_fold a b c = a == 13 && (b == 10 && is_blank c)

abbrev pub unfolded : List ℕ → List ℕ
unfolded [] = []
unfolded (a ∷ []) = a ∷ []
unfolded (a ∷ b ∷ []) = a ∷ b ∷ []
unfolded (a ∷ b ∷ c ∷ bytes) = if is_fold a b c then unfolded bytes else a ∷ unfolded (b ∷ c ∷ bytes)

-- the physical lines of a text: what LF ends, without the CR before it, and what follows the last LF
abbrev pub without_return : List ℕ → List ℕ
without_return [] = []
without_return (b ∷ bytes) = if b == 13 && length bytes == 0 then [] else b ∷ without_return bytes

unfoldable pub physical_lines : List ℕ → List (List ℕ)
physical_lines text = map without_return (slice_split (λ b. b == 10) text)
