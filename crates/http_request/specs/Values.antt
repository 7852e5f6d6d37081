-- The texts that a place has in the place of its route's parameters.
use Rattle.std.specs.Prelude.{◌≡◌, ℕ, List, [], Some, codes}
use Rattle.matchit.specs.Params.{AllText, named}
use Rattle.http_request.specs.declared.route.Route.{Route}
use Rattle.http_request.specs.declared.route.Route.TheVariants.{Commands, Case, Deadlines, Calendar, Holidays}
use Rattle.http_request.specs.Path.{Place}

-- these pairs of a name and a text give the place its texts
abbrev pub NamesValues : Route → List ℕ → List ℕ → List (List ℕ × List ℕ) → Type 0
NamesValues Commands first second pairs = (first ≡ []) × (second ≡ [])
NamesValues Case first second pairs = (named (codes "number") pairs ≡ Some first) × (second ≡ [])
NamesValues Deadlines first second pairs = (named (codes "number") pairs ≡ Some first) × (second ≡ [])
NamesValues Calendar first second pairs = (named (codes "from") pairs ≡ Some first) × (named (codes "to") pairs ≡ Some second)
NamesValues Holidays first second pairs = (named (codes "year") pairs ≡ Some first) × (second ≡ [])

-- the same, where all of them are UTF-8
abbrev pub HasValues : Place → List (List ℕ × List ℕ) → Type 0
HasValues place pairs = AllText pairs × NamesValues place.route place.first place.second pairs
