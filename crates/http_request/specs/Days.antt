-- The days that texts in a path or a query give.
use Rattle.std.specs.Prelude.{ℕ, List, Option, Some, None, nat_le, if◌then◌else◌, option_map}
use Rattle.civil_time.specs.DayText.{day_of_text}
use Rattle.html_sheets.specs.Due.{days_about}
use Rattle.html_sheets.specs.declared.due.Due.TheVariants.{Week}

-- the first and the last of the days, the first not after the last
abbrev pub in_order : Option ℕ → Option ℕ → Option (ℕ × ℕ)
in_order None last = None
in_order (Some first) None = None
in_order (Some first) (Some last) = if nat_le first last then Some (first, last) else None

-- the days that two texts give
abbrev pub days_of : List ℕ → List ℕ → Option (ℕ × ℕ)
days_of first last = in_order (day_of_text first) (day_of_text last)

-- the seven days from the day that a text gives, up to the last day that there is
abbrev pub week_of : List ℕ → Option (ℕ × ℕ)
week_of text = option_map (λ day. days_about day Week) (day_of_text text)
