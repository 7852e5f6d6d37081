-- Exports of the deadlines that fall due: the days that a query asks for.
use Rattle.std.specs.Prelude.{ℕ, List, Option, Some, None, codes, option_map, option_and_then}
use Rattle.std.specs.List.{before_first}
use Rattle.http_request.specs.Days.{days_of}
use Rattle.http_request.specs.Path.{behind}
use Rattle.http_request.specs.Target.{is_ampersand, behind_first}

-- the days that the text behind "from=" gives, as D&to=D
abbrev pub days_behind : List ℕ → Option (ℕ × ℕ)
days_behind text =
    option_and_then (λ last. days_of (before_first is_ampersand text) last)
    (option_and_then (behind (codes "to=")) (behind_first is_ampersand text))

-- the days that a query asks for: from the first to the last, `from=D&to=D`, or without a query none. The query may be bad.
abbrev pub days_asked : Option (List ℕ) → Option (Option (ℕ × ℕ))
days_asked None = Some None
days_asked (Some query) = option_map (λ days. Some days) (option_and_then days_behind (behind (codes "from=") query))
