-- Where the head of a request ends: after the first empty line that follows a non-empty one. A line
-- ends with LF, and a CR before it is dropped.
use Rattle.std.specs.Prelude.{ℕ, ◌+◌, ◌<◌, ◌≤◌, List, [], ◌∷◌, ◌==◌, nat_lt, if◌then◌else◌, ⊤}
use Rattle.http_request.specs.declared.head.Line.{Line}
use Rattle.http_request.specs.declared.head.Line.TheVariants.{Empty, Return, Filled}
use Rattle.http_request.specs.declared.head.Scan.{Scan}
use Rattle.http_request.specs.declared.head.HeadSearch.{HeadSearch}
use Rattle.http_request.specs.declared.head.HeadSearch.TheVariants.{More, Head, TooLong}
use Rattle.http_request.specs.declared.input.HeadEnd.{HeadEnd}
use Rattle.http_request.specs.declared.input.HeadEnd.TheVariants.{At, TooLong as TooLongEnd}

-- the line with one more byte that doesn't end it
abbrev pub grown : Line → ℕ → Line
grown Empty b = if b == 13 then Return else Filled
grown Return b = Filled
grown Filled b = Filled

-- no end yet: the search goes on, but for a head of 8,192 bytes
abbrev pub go_on : Scan → HeadSearch
go_on s = if nat_lt s.len 8192 then More s else TooLong

-- a line ended: an empty one ends the head once a line was filled, and the 66th filled line is too many
abbrev pub line_ended : ℕ → ℕ → Line → HeadSearch
line_ended len lines Filled = if lines + 1 == 66 then TooLong else go_on (record { len = len; lines = lines + 1; line = Empty })
line_ended len lines Empty = if lines == 0 then go_on (record { len = len; lines = 0; line = Empty }) else Head len
line_ended len lines Return = if lines == 0 then go_on (record { len = len; lines = 0; line = Empty }) else Head len

-- the search after one more byte
abbrev pub found_with : Scan → ℕ → HeadSearch
found_with s b =
    if b == 10 then line_ended (s.len + 1) s.lines s.line
    else go_on (record { len = s.len + 1; lines = s.lines; line = grown s.line b })

-- the search goes on only where it needs more
abbrev pub and_then : HeadSearch → (Scan → HeadSearch) → HeadSearch
and_then (More s) f = f s
and_then (Head n) f = Head n
and_then TooLong f = TooLong

-- the search over these bytes
abbrev pub found_over : Scan → List ℕ → HeadSearch
found_over s [] = More s
found_over s (b ∷ rest) = and_then (found_with s b) (λ t. found_over t rest)

abbrev pub start : Scan
start = record { len = 0; lines = 0; line = Empty }

-- where the head of the input ends
abbrev pub head_of : List ℕ → HeadSearch
head_of input = found_over start input

-- the fact, where the search needs more
abbrev pub IfMore : HeadSearch → (Scan → Type 0) → Type 0
IfMore (More s) P = P s
IfMore (Head n) P = ⊤
IfMore TooLong P = ⊤

-- the limits aren't reached
abbrev pub IsOpen : Scan → Type 0
IsOpen s = (s.len < 8192) × (s.lines < 66)

-- the end was not found yet
abbrev pub IsUnfinished : HeadSearch → Type 0
IsUnfinished (More s) = ⊤
IsUnfinished (Head n) = ⊥
IsUnfinished TooLong = ⊥

-- an end that was found
abbrev pub found_end : HeadEnd → HeadSearch
found_end (At n) = Head n
found_end TooLongEnd = TooLong

-- an end that was found lies within so many bytes
abbrev pub EndsWithin : ℕ → HeadEnd → Type 0
EndsWithin len (At n) = n ≤ len
EndsWithin len TooLongEnd = ⊤
