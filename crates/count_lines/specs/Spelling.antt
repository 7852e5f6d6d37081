-- How the lines of `count` are spelled: words parted by one space, numbers without leading zeros.
use Rattle.std.specs.Prelude.{◌≡◌, ℕ, ℤ, List, ◌∷◌, ◌++◌, codes}
use Rattle.std.specs.Fmt.{decimal}
use Rattle.civil_time.specs.DayText.{day_text}
use Rattle.civil_time.specs.MomentGrammar.{SpellsMoment, SpellsTimeOfDay}
use Rattle.civil_time.specs.MomentText.{clock_text}
use Rattle.civil_time.specs.ZoneGrammar.{SpellsZone}
use Rattle.court_days.specs.Court.{CourtSettings, zone_of}
use Rattle.court_days.specs.declared.calendar.DayKind.{DayKind}
use Rattle.court_days.specs.declared.calendar.DayKind.TheVariants.{Federal, State, Closed}
use Rattle.court_days.specs.declared.calendar.Direction.{Direction}
use Rattle.court_days.specs.declared.calendar.Direction.TheVariants.{Forward, Backward}
use Rattle.court_rules.specs.Methods.{method_name}
use Rattle.court_rules.specs.Rules.{name_of}
use Rattle.count_lines.specs.declared.request.Request.{Request}
use Rattle.count_lines.specs.declared.request.Request.TheVariants.{Enter, Span, Short, Zone, CountDays, CountMonths, CountHours, ByRule, Closing}

-- two texts with a space between them
abbrev pub spaced : List ℕ → List ℕ → List ℕ
spaced word text = word ++ 32 ∷ text

abbrev pub kind_word : DayKind → List ℕ
kind_word Federal = codes "federal"
kind_word State = codes "state"
kind_word Closed = codes "closed"

abbrev pub direction_word : Direction → List ℕ
direction_word Forward = codes "forward"
direction_word Backward = codes "backward"

-- DAY N
abbrev pub day_and_count : ℕ → ℕ → List ℕ
day_and_count day count = spaced (day_text day) (decimal count)

-- two moments, which have several spellings each: any offset will do
abbrev pub SpellsSpan : ℤ → ℤ → List ℕ → Type 0
SpellsSpan start end text =
    (first : List ℕ) × (second : List ℕ) × SpellsMoment start first × SpellsMoment end second × (text ≡ spaced first second)

-- MOMENT N
abbrev pub SpellsHours : ℤ → ℕ → List ℕ → Type 0
SpellsHours at count text = (moment : List ℕ) × SpellsMoment at moment × (text ≡ spaced moment (decimal count))

-- ZONE HH:MM
abbrev pub SpellsCourt : CourtSettings → List ℕ → Type 0
SpellsCourt court text =
    (close : List ℕ) × SpellsZone (zone_of court) court.zone_text × SpellsTimeOfDay court.close_minute close
    × (text ≡ spaced court.zone_text close)

-- `federal DAY`, `span MOMENT MOMENT`, `short DAY HH:MM`, `zone ZONE HH:MM`, `forward DAY N`, `months forward DAY N`,
-- `hours forward MOMENT N`, `rule NAME DAY METHOD` and `closing DAY`
abbrev pub Spells : Request → List ℕ → Type 0
Spells (Enter kind day) line = line ≡ spaced (kind_word kind) (day_text day)
Spells (CountDays direction day count) line = line ≡ spaced (direction_word direction) (day_and_count day count)
Spells (CountMonths direction day count) line =
    line ≡ spaced (codes "months") (spaced (direction_word direction) (day_and_count day count))
Spells (ByRule rule day method) line =
    line ≡ spaced (codes "rule") (spaced (name_of rule) (spaced (day_text day) (method_name method)))
Spells (Span start end) line = (text : List ℕ) × SpellsSpan start end text × (line ≡ spaced (codes "span") text)
Spells (Short day minute) line = line ≡ spaced (codes "short") (spaced (day_text day) (clock_text minute))
Spells (Closing day) line = line ≡ spaced (codes "closing") (day_text day)
Spells (Zone court) line = (text : List ℕ) × SpellsCourt court text × (line ≡ spaced (codes "zone") text)
Spells (CountHours direction at count) line =
    (text : List ℕ) × SpellsHours at count text × (line ≡ spaced (codes "hours") (spaced (direction_word direction) text))
