-- What a migration leaves, and what it returns.
use Rattle.std.specs.Prelude.{◌≡◌, ◌⊎◌, Result, Ok, Err}
use Rattle.sqlite.specs.Tree.{Trees}
use Rattle.sqlite.specs.Store.{Ghosts}
use Rattle.sqlite.specs.Effect.{Database, IsDatabase}
use Rattle.sqlite.specs.State.{State, HasCleanDisk}
use Rattle.sqlite.specs.Held.{Held, state}
use Rattle.court_days.specs.Court.{CourtSettings}
use Rattle.docket_columns.specs.declared.version.Version.TheVariants.{First, Second}
use Rattle.docket_history.specs.Histories.{History}
use Rattle.docket_decisions.specs.Tables.{rows_of}
use Rattle.docket_tables.specs.Contents.{rows_by, rows_in}
use Rattle.docket_tables.specs.Stands.{HoldsRows, MakesNothing}
use Rattle.docket_scan.specs.Finding.{AreSound, HasCause}
use Rattle.docket_scan.specs.Judging.{Rows as SoundRows}
use Rattle.docket_scan.specs.declared.fault.AdoptFault.{AdoptFault}
use Rattle.docket_scan.specs.declared.fault.AdoptFault.TheVariants.{NoMemory, StoreFailed}
use Rattle.docket_migration.specs.Changing.{IsEitherVersion}
use Rattle.docket_migration.specs.Keeping.{IsCommitted, seeing}

-- from the first version to the second: the court and the rows are those that they were, and the tables that the first version
-- lacks hold nothing, so that the tables of both are sound
pub record HasMoved (old new : State) : Type 0 where
  pub court : CourtSettings
  pub rows : SoundRows
  pub was : AreSound First old court rows
  pub is : AreSound Second new court rows
  pub next_row : is.next_row ≡ was.next_row
  pub live : IsDatabase new.now

-- these are the trees of a database that it has moved to
abbrev pub IsImageOfMoved : State → Trees → Type 0
IsImageOfMoved old db = (after : Database) × HasMoved old (seeing old after) × (db ≡ after.trees)

module _ {S : Type 0} (g : Ghosts S) where
  -- the docket of a history stands in the second version, or out of memory left each image as it was, or a power failure leaves it in
  -- either version. No other fault comes
  abbrev pub Migrates : Held S → Held S → CourtSettings → History → Result (Unit {0}) AdoptFault → Type 0
  Migrates old new court h (Ok _) = HoldsRows g new (rows_in court (rows_of court h))
  Migrates old new court h (Err NoMemory) = MakesNothing g old new
  Migrates old new court h (Err StoreFailed) = IsEitherVersion g new (rows_by First court (rows_of court h)) (rows_in court (rows_of court h))
  Migrates old new court h (Err _) = HasCleanDisk (state g new) → ⊥

  -- a power failure leaves what it could leave before
  abbrev pub KeepsImages : Held S → Held S → Type 0
  KeepsImages old new = HasCleanDisk (state g new) → (db : Trees) → (state g new).may_leave db → (state g old).may_leave db

  -- any database: it has moved to the second version, or the result is the first cause why its tables of the first were not sound,
  -- and nothing changes. If the database failed, a power failure leaves what it could leave before, or the second version
  abbrev pub Tells : Held S → Held S → Result (Unit {0}) AdoptFault → Type 0
  Tells old new (Ok _) = HasCleanDisk (state g new) → HasMoved (state g old) (state g new) × IsCommitted (state g new)
  Tells old new (Err StoreFailed) =
      HasCleanDisk (state g new) → (db : Trees) → (state g new).may_leave db → (state g old).may_leave db ⊎ IsImageOfMoved (state g old) db
  Tells old new (Err fault) = KeepsImages old new × (HasCleanDisk (state g new) → HasCause First (state g old) fault)
