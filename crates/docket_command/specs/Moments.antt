-- The moments that a command may name.
use Rattle.std.specs.Prelude.{◌≡◌, ℕ, ◌%◌, List, pos, Option, None, option_map}
use Rattle.civil_time.specs.LocalTime.{IsInstant, seconds}
use Rattle.civil_time.specs.MomentText.{moment_text, moment_at}
use Rattle.civil_time.specs.Zone.{ZoneRules}

-- a whole minute from 1980-01-03T00:00Z to 3999-12-29T00:00Z, in seconds since 1970-01-01T00:00Z
abbrev pub IsWholeMinute : ℕ → Type 0
IsWholeMinute instant = IsInstant instant × (instant % 60 ≡ 0)

-- Greenwich time all the year
abbrev pub utc : ZoneRules
utc = record { hours_west = pos 0; summer = None }

-- the text of a moment at Greenwich
abbrev pub utc_text : ℕ → List ℕ
utc_text instant = moment_text utc instant

-- the moment that a text spells
abbrev pub moment_named : List ℕ → Option ℕ
moment_named text = option_map seconds (moment_at text)
