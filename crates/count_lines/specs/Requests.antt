-- The lines of `count`: what each asks for.
use Rattle.std.specs.Prelude.{⊤, ℕ, ◌≤◌, ◌==◌, nat_le, Bool, not, ◌&&◌, List, [], ◌∷◌, ◌++◌, Option, None, Some, length, get_or, codes, if◌then◌else◌}
use Rattle.std.specs.Str.{bytes_eq}
use Rattle.std.specs.Char.{is_ascii_digit}
use Rattle.std.specs.List.{list_all}
use Rattle.std.specs.Str.Parse.{digits_value}
use Rattle.civil_time.specs.DayText.{day_of_text}
use Rattle.civil_time.specs.LocalTime.{IsMoment}
use Rattle.civil_time.specs.MomentText.{moment_at}
use Rattle.civil_time.specs.Reading.{time_of_day_at}
use Rattle.civil_time.specs.ZoneText.{zone_at}
use Rattle.court_days.specs.Civil.{IsEnteredDay, IsEnteredShort}
use Rattle.court_days.specs.Court.{CourtSettings}
use Rattle.court_days.specs.declared.calendar.DayKind.{DayKind}
use Rattle.court_days.specs.declared.calendar.DayKind.TheVariants.{Federal, State, Closed}
use Rattle.court_days.specs.declared.calendar.Direction.{Direction}
use Rattle.court_days.specs.declared.calendar.Direction.TheVariants.{Forward, Backward}
use Rattle.court_rules.specs.Methods.{method_named}
use Rattle.court_rules.specs.Rules.{rule_named}
use Rattle.count_lines.specs.declared.request.Request.{Request}
use Rattle.count_lines.specs.declared.request.Request.TheVariants.{Enter, Span, Short, Zone, CountDays, CountMonths, CountHours, ByRule, Closing}
use Rattle.court_days.specs.Limits.{first_entered_day, last_entered_day}

infixl 10 ◌>>=◌
abbrev pub ◌>>=◌ : {A B : Type 0} → Option A → (A → Option B) → Option B
None >>= next = None
(Some value) >>= next = next value

-- the value, if the test holds
abbrev pub value_if : {A : Type 0} → Bool → A → Option A
value_if test value = if test then Some value else None

-- the first word of a line, and what stands behind the space after it
abbrev pub cut_word : List ℕ → List ℕ → Option (List ℕ × List ℕ)
cut_word word [] = None
cut_word word (byte ∷ rest) = if byte == 32 then Some (word, rest) else cut_word (word ++ byte ∷ []) rest

abbrev pub words_of : List ℕ → Option (List ℕ × List ℕ)
words_of line = cut_word [] line

-- a day that a court may enter: one from 2000-01-01 to 2099-12-31
abbrev pub entered_day_of : List ℕ → Option ℕ
entered_day_of text = do
  day ← day_of_text text
  value_if (nat_le first_entered_day day && nat_le day last_entered_day) day

-- a number of 1 to 4 digits, the first of them not 0: no period has a longer one
abbrev pub is_number : List ℕ → Bool
is_number text =
    nat_le 1 (length text) && nat_le (length text) 4 && not (get_or text 0 0 == 48) && list_all is_ascii_digit text

abbrev pub number_of : List ℕ → Option ℕ
number_of text = value_if (is_number text) (digits_value 10 text)

-- DAY, after `federal`, `state` or `closed`
abbrev pub enter_of : DayKind → List ℕ → Option Request
enter_of kind text = do
  day ← entered_day_of text
  Some (Enter kind day)

-- DAY N, after `forward` or `backward`: a period of 1 to 3650 days
abbrev pub count_of : Direction → List ℕ → Option Request
count_of direction text = do
  words ← words_of text
  day ← entered_day_of words.0
  count ← number_of words.1
  value_if (nat_le 1 count && nat_le count 3650) (CountDays direction day count)

-- the direction that the word names
abbrev pub direction_named : List ℕ → Option Direction
direction_named word =
    if bytes_eq word (codes "forward") then Some Forward
    else (if bytes_eq word (codes "backward") then Some Backward else None)

-- `forward DAY N` or `backward DAY N`, after `months`: a period of 1 to 120 months
abbrev pub months_of : List ℕ → Option Request
months_of text = do
  words ← words_of text
  direction ← direction_named words.0
  words ← words_of words.1
  day ← entered_day_of words.0
  count ← number_of words.1
  value_if (nat_le 1 count && nat_le count 120) (CountMonths direction day count)

-- `forward MOMENT N` or `backward MOMENT N`, after `hours`: a period of 1 to 8760 hours
abbrev pub hours_of : List ℕ → Option Request
hours_of text = do
  words ← words_of text
  direction ← direction_named words.0
  words ← words_of words.1
  at ← moment_at words.0
  count ← number_of words.1
  value_if (nat_le 1 count && nat_le count 8760) (CountHours direction at count)

-- NAME DAY METHOD, after `rule`: the time that a rule sets, from a day, for a party that was served so
abbrev pub rule_of : List ℕ → Option Request
rule_of text = do
  words ← words_of text
  rule ← rule_named words.0
  words ← words_of words.1
  day ← entered_day_of words.0
  method ← method_named words.1
  Some (ByRule rule day method)

-- MOMENT MOMENT, after `span`
abbrev pub span_of : List ℕ → Option Request
span_of text = do
  words ← words_of text
  start ← moment_at words.0
  end ← moment_at words.1
  Some (Span start end)

-- DAY HH:MM, after `short`
abbrev pub short_of : List ℕ → Option Request
short_of text = do
  words ← words_of text
  day ← entered_day_of words.0
  minute ← time_of_day_at words.1
  Some (Short day minute)

-- DAY, after `closing`
abbrev pub closing_of : List ℕ → Option Request
closing_of text = do
  day ← entered_day_of text
  Some (Closing day)

-- the court whose zone and closing time the texts spell
abbrev pub court_named : List ℕ → List ℕ → Option CourtSettings
court_named zone close = do
  rules ← zone_at zone
  minute ← time_of_day_at close
  Some (record { zone_text = zone; close_minute = minute })

-- ZONE HH:MM, after `zone`
abbrev pub zone_of_line : List ℕ → Option Request
zone_of_line text = do
  words ← words_of text
  court ← court_named words.0 words.1
  Some (Zone court)

-- what the rest of a line asks for, by its first word
abbrev pub asked_by : List ℕ → List ℕ → Option Request
asked_by word text =
    if bytes_eq word (codes "forward") then count_of Forward text
    else (if bytes_eq word (codes "backward") then count_of Backward text
    else (if bytes_eq word (codes "federal") then enter_of Federal text
    else (if bytes_eq word (codes "state") then enter_of State text
    else (if bytes_eq word (codes "closed") then enter_of Closed text
    else (if bytes_eq word (codes "months") then months_of text
    else (if bytes_eq word (codes "rule") then rule_of text
    else (if bytes_eq word (codes "span") then span_of text
    else (if bytes_eq word (codes "hours") then hours_of text
    else (if bytes_eq word (codes "short") then short_of text
    else (if bytes_eq word (codes "closing") then closing_of text
    else None))))))))))

-- what a line asks for, if it is of one of these forms and its values lie in their limits
abbrev pub request_of : List ℕ → Option Request
request_of line = do
  words ← words_of line
  if bytes_eq words.0 (codes "zone") then zone_of_line words.1 else asked_by words.0 words.1

-- the days may be entered, the moments and the times of day are in their range, and the counts within their limits
abbrev pub IsAsked : Request → Type 0
IsAsked (Enter kind day) = IsEnteredDay day
IsAsked (CountDays direction day count) = IsEnteredDay day × (1 ≤ count) × (count ≤ 3650)
IsAsked (CountMonths direction day count) = IsEnteredDay day × (1 ≤ count) × (count ≤ 120)
IsAsked (CountHours direction at count) = IsMoment at × (1 ≤ count) × (count ≤ 8760)
IsAsked (ByRule rule day method) = IsEnteredDay day
IsAsked (Span start end) = IsMoment start × IsMoment end
IsAsked (Short day minute) = IsEnteredShort day minute
IsAsked (Closing day) = IsEnteredDay day
IsAsked (Zone court) = ⊤
