-- A desk at which a docket is served, as contracts see it.
use Rattle.std.specs.Prelude.{◌≡◌, ℕ, [], ◌∷◌, refl}
use Rattle.std.specs.Coded.{Coded, code_by, coded×, coded_ℕ}
use Rattle.sqlite.specs.Store.{Ghosts}
use Rattle.docket_applying.specs.Dockets.{Docket, docket_code}
use Rattle.http_request.specs.contracts.page.Routes as routes
use Rattle.http_request.specs.declared.page.Routes.{Routes}
use Rattle.docket_serving.specs.Exchanges.{Exchange, Rise}
use Rattle.docket_serving.specs.Serving.{IsAttended}

-- its docket, which routes are served, and the number of the last connection
pub record Desk (S : Type 0) : Type 0 where
  pub docket : Docket S
  pub routes : Routes
  pub number : ℕ

abbrev pub desk_code : {S : Type 0} → Coded S → Coded (Desk S)
desk_code {S} store =
    code_by (Docket S × (Routes × ℕ)) (coded× (docket_code store) (coded× routes.the_row.coded coded_ℕ))
    (λ d. (d.docket, (d.routes, d.number))) (λ p. record { docket = p.0; routes = p.1.0; number = p.1.1 }) (λ _. refl)

-- a connection at a desk is served by its docket under a number above the last one, and the routes stay
abbrev pub DeskAttends : {S : Type 0} → Ghosts S → Desk S → Exchange → Desk S → Type 0
DeskAttends g old e new =
    (new.routes ≡ old.routes) × Rise old.number (e ∷ []) new.number × IsAttended g old.routes old.docket e new.docket
