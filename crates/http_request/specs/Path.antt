-- What a path asks for, by its text alone.
use Rattle.std.specs.Prelude.{ℕ, List, [], ◌∷◌, Option, Some, None, ◌==◌, if◌then◌else◌, codes}
use Rattle.http_request.specs.declared.route.Route.{Route}
use Rattle.http_request.specs.declared.route.Route.TheVariants.{Commands, Case, Deadlines, Calendar, Holidays}

-- what is left of a text behind a prefix
abbrev pub behind : List ℕ → List ℕ → Option (List ℕ)
behind [] text = Some text
behind (x ∷ word) [] = None
behind (x ∷ word) (b ∷ text) = if x == b then behind word text else None

-- a text at its first slash: the part before it, and the rest where there is one
abbrev pub at_slash : List ℕ → List ℕ × Option (List ℕ)
at_slash [] = ([], None)
at_slash (b ∷ text) = if b == 47 then ([], Some text) else (b ∷ (at_slash text).0, (at_slash text).1)

-- a route, and the texts in the place of its parameters
pub record Place : Type 0 where
  pub route : Route
  pub first : List ℕ
  pub second : List ℕ

-- the whole text is this word
abbrev pub word_place : Route → List ℕ → Option Place
word_place route [] = Some (record { route = route; first = []; second = [] })
word_place route (b ∷ text) = None

-- one part that is not empty
abbrev pub part_place : (List ℕ → Place) → List ℕ × Option (List ℕ) → Option Place
part_place f ([], rest) = None
part_place f (b ∷ part, None) = Some (f (b ∷ part))
part_place f (b ∷ part, Some rest) = None

-- two parts that are not empty
abbrev pub calendar_place : List ℕ × Option (List ℕ) → Option Place
calendar_place ([], rest) = None
calendar_place (b ∷ part, None) = None
calendar_place (b ∷ part, Some rest) = part_place (λ to. record { route = Calendar; first = b ∷ part; second = to }) (at_slash rest)

-- what is left behind "deadlines" is nothing
abbrev pub deadlines_place : List ℕ → Option (List ℕ) → Option Place
deadlines_place number (Some []) = Some (record { route = Deadlines; first = number; second = [] })
deadlines_place number (Some (b ∷ rest)) = None
deadlines_place number None = None

-- a number that is not empty, alone or before "/deadlines"
abbrev pub case_place : List ℕ × Option (List ℕ) → Option Place
case_place ([], rest) = None
case_place (b ∷ part, None) = Some (record { route = Case; first = b ∷ part; second = [] })
case_place (b ∷ part, Some rest) = deadlines_place (b ∷ part) (behind (codes "deadlines") rest)

abbrev pub holidays_place : List ℕ × Option (List ℕ) → Option Place
holidays_place parts = part_place (λ year. record { route = Holidays; first = year; second = [] }) parts

-- the place, where the text behind the prefix is one
abbrev pub where_behind : (List ℕ → Option Place) → Option (List ℕ) → Option Place
where_behind f None = None
where_behind f (Some rest) = f rest

abbrev pub first_of : Option Place → Option Place → Option Place
first_of None other = other
first_of (Some place) other = Some place

-- what a path asks for
abbrev pub place_of : List ℕ → Option Place
place_of path =
    first_of (where_behind (λ rest. calendar_place (at_slash rest)) (behind (codes "/calendar/") path))
    (first_of (where_behind (λ rest. case_place (at_slash rest)) (behind (codes "/cases/") path))
    (first_of (where_behind (word_place Commands) (behind (codes "/commands") path))
    (where_behind (λ rest. holidays_place (at_slash rest)) (behind (codes "/holidays/") path))))
