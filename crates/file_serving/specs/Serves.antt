-- The docket after the connections that come to a place.
use Rattle.std.specs.Prelude.{◌≡◌, ℕ, Option, None, Result, Ok, Err, option_copied}
use Rattle.sqlite.specs.Held.{Held, state}
use Rattle.sqlite.specs.State.{HasCleanDisk}
use Rattle.sqlite.specs.Store.{Ghosts}
use Rattle.sqlite.specs.declared.error.Error.{Error}
use Rattle.docket_scan.specs.declared.fault.AdoptFault.{AdoptFault}
use Rattle.patient_stream.specs.Places.{IsPortOf}
use Rattle.http_request.specs.Origins.{AreGuardedAt, AreShownAt}
use Rattle.http_request.specs.declared.page.Routes.{Routes}
use Rattle.http_request.specs.declared.page.Routes.TheVariants.{Docket}
use Rattle.docket_serving.specs.Desks.{Desk}
use Rattle.docket_serving.specs.Serving.{ServesRun}
use Rattle.docket_tables.specs.Layouts.{Rows}
use Rattle.docket_tables.specs.Stands.{HoldsRows}
use Rattle.docket_applying.specs.Applying.{IsDocket, StandsFor}
use Rattle.docket_applying.specs.CourtDockets.{CourtDocket as Stored, StandsAs}
use Rattle.file_dockets.specs.Adopting.{AdoptsOver}
use Rattle.file_dockets.specs.Keeping.{HoldsBetween}
use Rattle.file_dockets.specs.Works.{WorksTo}
use Rattle.file_serving.specs.declared.serving.ServeEnd.{ServeEnd}
use Rattle.file_serving.specs.declared.serving.ServeEnd.TheVariants.{Stopped}
use Rattle.file_serving.specs.declared.serving.Service.{Service}
use Rattle.file_serving.specs.declared.serving.Shown.{Shown}
use Rattle.file_serving.specs.declared.serving.Shown.TheVariants.{NoPages, Guarded, Pages}

-- what holds where no connection was waited for: the docket was not adopted, or the program could not listen or report where
abbrev pub IfUnserved : Result (Result (Unit {0}) ServeEnd) AdoptFault → Type 0 → Type 0
IfUnserved (Ok (Ok done)) P = Unit {0}
IfUnserved (Ok (Err (Stopped fault))) P = Unit {0}
IfUnserved (Ok (Err _)) P = P
IfUnserved (Err fault) P = P

-- these are the routes of the docket alone, to whoever asks or at the origins with a port, or with the pages at those
abbrev pub AreServedAt : ℕ → Shown → Routes → Type 0
AreServedAt port NoPages routes = routes ≡ Docket
AreServedAt port (Guarded other) routes = AreGuardedAt port (option_copied other) routes
AreServedAt port (Pages other) routes = AreShownAt port (option_copied other) routes

-- these are the routes that were asked for, at the origins of the place
abbrev pub AreServed : Service → Routes → Type 0
AreServed service routes = (port : ℕ) × IsPortOf service.place port × AreServedAt port service.shown routes

module _ {S : Type 0} (g : Ghosts S) where
  -- a docket was served to so many connections, whose bytes are not known, by the routes that are served at a place; where none was waited
  -- for it is as it was
  abbrev pub ServesPlace : Desk S → Desk S → Service → Result (Unit {0}) ServeEnd → Type 0
  ServesPlace old new service (Ok done) = AreServed service new.routes × ServesRun g new.routes old.number new.number old.docket new.docket service.count None None (Ok done)
  ServesPlace old new service (Err (Stopped fault)) =
      AreServed service new.routes × ServesRun g new.routes old.number new.number old.docket new.docket service.count None None (Err fault)
  ServesPlace old new service (Err _) = new ≡ old

  -- the docket of a history was adopted and served at a desk, by the routes that were asked for, and the connection is the one that it was left
  -- with. A connection's bytes are not known, so no clause says what was shown
  pub record Serves (conn : Held S) (told : Stored) (service : Service) (end : Result (Unit {0}) ServeEnd) : Type 0 where
    pub adopted : Desk S
    pub last : Desk S
    pub stands : StandsAs g adopted.docket told
    pub served : ServesPlace adopted last service end
    pub left : conn ≡ last.docket.conn

  -- The outcome of serving over a connection, by what it held, `old`, and as it comes back, `new`.
  pub record ServesOver (old new : Held S) (service : Service) (failure : Option Error) (outcome : Result (Result (Unit {0}) ServeEnd) AdoptFault) : Type 0 where
    pub adopts : AdoptsOver g old new failure outcome
    pub served : (told : Stored) → IsDocket told.court told.history → StandsFor g old told.court told.history → HasCleanDisk (state g new)
        → WorksTo (Serves new told service) outcome
    pub stays : (rows : Rows) → HoldsRows g old rows → IfUnserved outcome (HoldsBetween g new rows rows)
