-- What is left of a docket.
use Rattle.std.specs.Prelude.{◌⊎◌, IsTrue}
use Rattle.sqlite.specs.Tree.{Trees}
use Rattle.sqlite.specs.Store.{Ghosts}
use Rattle.sqlite.specs.Held.{Held, state}
use Rattle.sqlite.specs.State.{HasCleanDisk, State}
use Rattle.docket_tables.specs.Layouts.{Rows}
use Rattle.docket_tables.specs.Stands.{IsImage, IsSettled}
use Rattle.docket_store.specs.Applying.{IsDocket, docket_rows}
use Rattle.docket_store.specs.CourtDockets.{CourtDocket as Docket}

-- each database that a power failure may leave has the rows or the next ones; so has the last commit, unless the connection is shut
pub record IsBetween (s : State) (rows next : Rows) : Type 0 where
  pub images : (db : Trees) → s.may_leave db → IsImage rows db ⊎ IsImage next db
  pub settled : IsTrue s.is_open → IsSettled s rows ⊎ IsSettled s next

abbrev pub HoldsBetween : {S : Type 0} → Ghosts S → Held S → Rows → Rows → Type 0
HoldsBetween g conn rows next = HasCleanDisk (state g conn) → IsBetween (state g conn) rows next

abbrev pub rows_told : Docket → Rows
rows_told docket = docket_rows docket.court docket.history

-- whatever is left, `Left` says that it has the rows or the next ones: here it is this docket
abbrev pub Keeps : (Rows → Rows → Type 0) → Docket → Type 0
Keeps Left docket = IsDocket docket.court docket.history × Left (rows_told docket) (rows_told docket)
