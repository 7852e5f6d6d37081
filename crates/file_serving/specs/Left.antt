-- What a service leaves of a docket, and how it ended.
use Rattle.std.specs.Prelude.{ℕ, List, Result, Ok, Err}
use Rattle.docket_history.specs.Histories.{History}
use Rattle.http_request.specs.declared.page.Routes.{Routes}
use Rattle.docket_serving.specs.Exchanges.{Ends, Exchange, Rise}
use Rattle.docket_serving.specs.Led.{LeadsTo}
use Rattle.docket_serving.specs.declared.serving.ServingFault.{ServingFault}
use Rattle.docket_tables.specs.Layouts.{Rows}
use Rattle.docket_applying.specs.Applying.{IsDocket, docket_rows}
use Rattle.docket_applying.specs.CourtDockets.{CourtDocket as Docket}
use Rattle.file_dockets.specs.Keeping.{rows_told}
use Rattle.file_serving.specs.Serves.{AreServed}
use Rattle.file_serving.specs.declared.serving.ServeEnd.{ServeEnd}
use Rattle.file_serving.specs.declared.serving.ServeEnd.TheVariants.{Stopped}
use Rattle.file_serving.specs.declared.serving.Service.{Service}

-- whatever is left, `Left` says that it has the rows or the next ones
module _ (Left : Rows → Rows → Type 0) where
  -- Connections were taken, as many as the service asks for, or fewer for a fault, each under a number above those before it, and led the docket
  -- through histories: each of them added the command that it sent, or nothing. The docket of the last history is left; where the database failed
  -- under a connection, that or the next one. What a connection sends is not known, so no clause says which command it was.
  pub record LeavesLed (docket : Docket) (service : Service) (result : Result (Unit {0}) ServingFault) : Type 0 where
    pub routes : Routes
    pub shown : AreServed service routes
    pub exchanges : List Exchange
    pub ends : Ends service.count exchanges result
    pub rise : (before : ℕ) × (number : ℕ) × Rise before exchanges number
    pub last : History
    pub next : History
    pub is : IsDocket docket.court last
    pub leads : LeadsTo routes docket.court docket.history exchanges last next
    pub left : Left (docket_rows docket.court last) (docket_rows docket.court next)

  -- where no connection was waited for, the docket is as it was
  abbrev pub LeavesServed : Docket → Service → Result (Unit {0}) ServeEnd → Type 0
  LeavesServed docket service (Ok done) = LeavesLed docket service (Ok done)
  LeavesServed docket service (Err (Stopped fault)) = LeavesLed docket service (Err fault)
  LeavesServed docket service (Err _) = Left (rows_told docket) (rows_told docket)
