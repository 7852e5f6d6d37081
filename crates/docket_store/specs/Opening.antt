-- What the making and the adopting of a docket leave of a database.
use Rattle.std.specs.Prelude.{◌≡◌, ◌⊎◌, ◌<◌, ◌^◌, ℕ, List, [], Result, Ok, Err, IsTrue}
use Rattle.sqlite.specs.Tree.{Trees}
use Rattle.sqlite.specs.Store.{Ghosts}
use Rattle.sqlite.specs.State.{State, HasCleanDisk, IsUnchanged}
use Rattle.sqlite.specs.Held.{Held, state}
use Rattle.court_days.specs.Court.{CourtSettings}
use Rattle.docket_history.specs.Histories.{History}
use Rattle.docket_columns.specs.declared.version.Version.TheVariants.{Second}
use Rattle.docket_decisions.specs.declared.end_row.StoredEnd.{StoredEnd}
use Rattle.docket_scan.specs.Dockets.{IsFoundOfDocket}
use Rattle.docket_scan.specs.Finding.{AreSound, HasCause}
use Rattle.docket_scan.specs.Holdings.{holdings_of}
use Rattle.docket_scan.specs.Judging.{Rows as SoundRows, StaysOpen}
use Rattle.docket_scan.specs.declared.fault.AdoptFault.{AdoptFault}
use Rattle.docket_scan.specs.declared.fault.AdoptFault.TheVariants as adopt
use Rattle.docket_scan.specs.declared.finding.FoundDocket.{FoundDocket}
use Rattle.docket_scan.specs.declared.holdings.Holdings.{Holdings}
use Rattle.docket_tables.specs.AnyRows.{AreDocketRows}
use Rattle.docket_tables.specs.Recognition.{has_docket_table}
use Rattle.docket_tables.specs.Layouts.{Rows}
use Rattle.docket_tables.specs.Stands.{HoldsRows, IsImage, Lasts}
use Rattle.docket_applying.specs.Applying.{StandsFor, Stands, docket_rows}
use Rattle.docket_applying.specs.Dockets.{Docket}
use Rattle.docket_store.specs.declared.creating.CreateFault.{CreateFault}
use Rattle.docket_store.specs.declared.creating.CreateFault.TheVariants as create

-- a database that is rejected as no docket's stays as it was; nothing is claimed after out of memory or a failure of the database
abbrev pub Spares : State → State → AdoptFault → Type 0
Spares old new adopt.NoMemory = Unit {0}
Spares old new adopt.StoreFailed = Unit {0}
Spares old new _ = StaysOpen old new

-- the rows are those of a docket's tables, to which a command can be applied
abbrev pub TakeCommands : CourtSettings → Rows → Type 0
TakeCommands court rows = (next_row : ℕ) × (stored : List StoredEnd) × AreDocketRows court next_row stored rows × (next_row < 2 ^ 62)

module _ {S : Type 0} (g : Ghosts S) where
  -- what remains if no docket was made: a power failure leaves what it could leave before, or, if the database failed, the docket
  -- without any record
  abbrev pub IsNotMade : Held S → Held S → CourtSettings → CreateFault → Type 0
  IsNotMade old new court create.NotEmpty = IsTrue (has_docket_table old.schema) × (new ≡ old)
  IsNotMade old new court create.NoMemory =
      HasCleanDisk (state g new) → (db : Trees) → (state g new).may_leave db → (state g old).may_leave db
  IsNotMade old new court create.StoreFailed =
      HasCleanDisk (state g new) → (db : Trees) → (state g new).may_leave db → (state g old).may_leave db ⊎ IsImage (docket_rows court []) db

  -- checking a database changes nothing, whether it is accepted as a docket's or not
  abbrev pub PreservesRejected : Held S → Rows → AdoptFault → Type 0
  PreservesRejected conn rows adopt.StoreFailed = Lasts g conn rows
  PreservesRejected conn rows _ = HoldsRows g conn rows

  abbrev pub PreservesJudged : {X : Type 0} → Held S → Rows → Result X AdoptFault → Type 0
  PreservesJudged conn rows (Ok x) = HoldsRows g conn rows
  PreservesJudged conn rows (Err fault) = PreservesRejected conn rows fault

  -- any database

  -- its tables are sound, each by those before it: they hold these rows of a docket of the court, and stay as they were
  abbrev pub HoldsSound : Held S → Held S → CourtSettings → SoundRows → Type 0
  HoldsSound old new court r = IsUnchanged (state g old) (state g new) × AreSound Second (state g old) court r

  -- the docket is that of a court, and its tables are sound
  abbrev pub IsSoundDocket : Held S → Docket S → Type 0
  IsSoundDocket old d = HasCleanDisk (state g d.conn) → (r : SoundRows) × HoldsSound old d.conn d.court r

  -- and its tables hold this many rows
  abbrev pub IsSoundWith : Held S → Docket S → Holdings → Type 0
  IsSoundWith old d held = HasCleanDisk (state g d.conn) → (r : SoundRows) × HoldsSound old d.conn d.court r × (held ≡ holdings_of d.court r)

  -- its tables were sound before it was written to
  abbrev pub WasSound : Held S → Held S → Type 0
  WasSound old new = HasCleanDisk (state g new) → (court : CourtSettings) × (r : SoundRows) × AreSound Second (state g old) court r

  -- the fault is the first, in the order of the faults, for which the database is no docket's
  abbrev pub IsRejected : Held S → Held S → AdoptFault → Type 0
  IsRejected old new fault = HasCleanDisk (state g new) → Spares (state g old) (state g new) fault × HasCause Second (state g old) fault

  -- what the check of any database returns
  abbrev pub IsToldOf : Held S → Held S → Result FoundDocket AdoptFault → Type 0
  IsToldOf old new (Ok found) = HasCleanDisk (state g new) → (r : SoundRows) × HoldsSound old new found.court r × (found.held ≡ holdings_of found.court r)
  IsToldOf old new (Err fault) = IsRejected old new fault

  -- a docket's database

  -- what remains if a docket's database was not adopted: its rows stay, and the fault is out of memory or a failure of the database
  abbrev pub IsNotAdopted : Held S → Rows → AdoptFault → Type 0
  IsNotAdopted conn rows adopt.NoMemory = HoldsRows g conn rows
  IsNotAdopted conn rows adopt.StoreFailed = Lasts g conn rows
  IsNotAdopted conn rows _ = HasCleanDisk (state g conn) → ⊥

  -- the check finds the docket as it is, and leaves it so
  abbrev pub Finds : Held S → CourtSettings → History → Result FoundDocket AdoptFault → Type 0
  Finds conn court h (Ok found) = StandsFor g conn court h × (HasCleanDisk (state g conn) → IsFoundOfDocket court h (Ok found))
  Finds conn court h (Err fault) = IsNotAdopted conn (docket_rows court h) fault

  -- the docket of a history is adopted as it is
  abbrev pub IsAdopted : Docket S → CourtSettings → History → Type 0
  IsAdopted d court h = HasCleanDisk (state g d.conn) → Stands g d h × (d.court ≡ court)
