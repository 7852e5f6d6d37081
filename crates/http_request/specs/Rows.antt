-- The five routes, as the router keeps them.
use Rattle.std.specs.Prelude.{ℕ, List, [], ◌∷◌, ◌++◌, codes}
use Rattle.matchit.specs.Rows.{RowsOf, param_token}
use Rattle.matchit.specs.Router.{RouteOf}
use Rattle.http_request.specs.declared.route.Route.{Route}
use Rattle.http_request.specs.declared.route.Route.TheVariants.{Commands, Case, Deadlines, Calendar, Holidays}

-- a route's row: its tokens, its text, where its parameters' names stand in that, and its value
abbrev pub row : List ℕ → List ℕ → List (ℕ × ℕ) → Route → List ℕ × RouteOf Route
row pattern text names route = (pattern, record { pattern = pattern; text = text; names = names; value = route })

abbrev pub route_rows : RowsOf (RouteOf Route)
route_rows =
    row (codes "/calendar/" ++ param_token ∷ 47 ∷ param_token ∷ []) (codes "/calendar/{from}/{to}") ((11, 15) ∷ (18, 20) ∷ []) Calendar
    ∷ row (codes "/cases/" ++ param_token ∷ codes "/deadlines") (codes "/cases/{number}/deadlines") ((8, 14) ∷ []) Deadlines
    ∷ row (codes "/cases/" ++ param_token ∷ []) (codes "/cases/{number}") ((8, 14) ∷ []) Case
    ∷ row (codes "/commands") (codes "/commands") [] Commands
    ∷ row (codes "/holidays/" ++ param_token ∷ []) (codes "/holidays/{year}") ((11, 15) ∷ []) Holidays
    ∷ []
