-- A question whose answer is a list of deadlines whose time runs, and how many of its rows were read.
use Rattle.std.specs.Prelude.{◌≡◌, false, ◌⊎◌, ℕ, ◌+◌, ◌<◌, ◌≤◌, List, map, take, length, slice_get, Option, Some, None, Result, Ok, Err}
use Rattle.std.specs.List.{AllByRecursion}
use Rattle.sqlite.specs.Order.{Row}
use Rattle.sqlite.specs.Command.{Command}
use Rattle.sqlite.specs.Command.TheVariants.{Nothing}
use Rattle.sqlite.specs.Effect.{Database, Reads, ReadsFirst}
use Rattle.sqlite.specs.Given.{HasGiven, IsPlain}
use Rattle.sqlite.specs.Listing.{understood, reads_listing}
use Rattle.sqlite_resolve.specs.declared.compiled.Compiled.{Compiled}
use Rattle.sqlite_resolve.specs.declared.error.CompileError.{CompileError}
use Rattle.sqlite.specs.Store.{Ghosts}
use Rattle.sqlite.specs.State.{HasCleanDisk, IsUnchanged, IsRolledBack, Fails}
use Rattle.sqlite.specs.Held.{Held, state}
use Rattle.court_days.specs.Calendar.{Entered}
use Rattle.court_days.specs.Court.{CourtSettings}
use Rattle.docket_history.specs.declared.record.DueRow.{DueRow}
use Rattle.docket_tables.specs.declared.fault.ReadFault.{ReadFault}
use Rattle.docket_tables.specs.declared.fault.ReadFault.TheVariants.{Store, NoMemory, Damaged}
use Rattle.docket_calendar.specs.DueCells.{due_cells, IsDue}

-- the command of a text
abbrev pub command_of : Result Compiled CompileError → Command
command_of (Ok c) = c.command
command_of (Err e) = Nothing

-- in this database the answer to the question is the rows of these due deadlines, in this order
pub record Lists (sql : List ℕ) (params : Row) (court : CourtSettings) (entered : Entered) (db : Database) (listed : List DueRow) : Type 0 where
  pub command : Command
  pub is : command_of (understood db.schema sql) ≡ command
  pub plain : IsPlain (understood db.schema sql)
  pub unlisted : reads_listing db.schema sql ≡ false
  pub begins : (rows : List Row) → ReadsFirst command db params rows → (length rows ≤ length listed) × (rows ≡ map (due_cells court) (take (length rows) listed))
  pub whole : (rows : List Row) → Reads command db params rows → rows ≡ map (due_cells court) listed
  pub sound : AllByRecursion (IsDue court entered) listed
  pub few : length listed < 4_294_967_295

module _ {S : Type 0} (g : Ghosts S) where
  -- the question is under way, and the rows of the first n deadlines were read
  abbrev pub Gave : List ℕ → Row → CourtSettings → List DueRow → ℕ → Held S → Type 0
  Gave sql params court listed n h = HasGiven g sql params h (map (due_cells court) (take n listed)) × (n ≤ length listed)

  -- this holds of any question that lists deadlines, after the rows of the first n were read, unless the disk was not honest
  abbrev pub OfAsked : CourtSettings → Entered → ℕ → Held S → Held S → (List ℕ → Row → List DueRow → Type 0) → Type 0
  OfAsked court entered n old new P =
      (sql : List ℕ) (params : Row) (listed : List DueRow) → HasCleanDisk (state g new) → Lists sql params court entered (state g old).now listed
      → Gave sql params court listed n old → P sql params listed

  -- the result of reading the next row
  abbrev pub Next : List ℕ → Row → CourtSettings → List DueRow → ℕ → Held S → Held S → Result (Option DueRow) ReadFault → Type 0
  Next sql params court listed n old new (Ok (Some d)) = IsUnchanged (state g old) (state g new) × (slice_get listed n ≡ Some d) × Gave sql params court listed (n + 1) new
  Next sql params court listed n old new (Ok None) = IsUnchanged (state g old) (state g new) × (length listed ≡ n)
  Next sql params court listed n old new (Err (Store e)) = Fails (state g old) (state g new) ⊥ e ⊎ IsUnchanged (state g old) (state g new)
  Next sql params court listed n old new (Err NoMemory) = IsUnchanged (state g old) (state g new)
  Next sql params court listed n old new (Err Damaged) = ⊥

  -- what a fault of any question leaves of the connection: it is as it was, unless the store failed
  abbrev pub RemainsAt : Held S → Held S → ReadFault → Type 0
  RemainsAt old new (Store e) = IsUnchanged (state g old) (state g new) ⊎ IsRolledBack (state g old) (state g new)
  RemainsAt old new NoMemory = IsUnchanged (state g old) (state g new)
  RemainsAt old new Damaged = IsUnchanged (state g old) (state g new)

  -- what the next row of any question leaves of the connection
  abbrev pub RemainsAfter : {X : Type 0} → Held S → Held S → Result X ReadFault → Type 0
  RemainsAfter old new (Ok x) = IsUnchanged (state g old) (state g new)
  RemainsAfter old new (Err fault) = RemainsAt old new fault
