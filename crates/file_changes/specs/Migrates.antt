-- What a migration leaves of a docket in the first version of the tables.
use Rattle.std.specs.Prelude.{◌⊎◌, Result, Ok, Err, IfErr, OnOk}
use Rattle.sqlite_disk.specs.declared.Disk.{Ghosts}
use Rattle.sqlite_wal.specs.Recovery.{Image}
use Rattle.sqlite_store.specs.declared.store.FileStore.{FileStore}
use Rattle.sqlite.specs.Files.{over_files}
use Rattle.sqlite.specs.Held.{Held, state}
use Rattle.sqlite.specs.State.{HasCleanDisk, State}
use Rattle.sqlite.specs.Store.{Ghosts as Store}
use Rattle.sqlite.specs.Tree.{Trees}
use Rattle.sqlite.specs.declared.file.Leftover.{Leftover}
use Rattle.docket_columns.specs.declared.version.Version.{Version}
use Rattle.docket_columns.specs.declared.version.Version.TheVariants.{First}
use Rattle.docket_migration.specs.Migrating.{HasMoved, IsImageOfMoved}
use Rattle.docket_scan.specs.Finding.{HasCause}
use Rattle.docket_tables.specs.Layouts.{Rows}
use Rattle.docket_tables.specs.Stands.{IsImage, IsImageIn, ShowsIn}
use Rattle.docket_store.specs.Left.{Leaves, LeavesRows}
use Rattle.docket_store.specs.Migrating.{cause_of, first_rows}
use Rattle.docket_store.specs.Reopening.{HoldRows}
use Rattle.docket_store.specs.declared.migrating.MigrateFault.{MigrateFault}
use Rattle.docket_store.specs.declared.migrating.MigrateFault.TheVariants.{NoMemory, StoreFailed}
use Rattle.docket_applying.specs.CourtDockets.{CourtDocket as Docket}
use Rattle.file_dockets.specs.Keeping.{rows_told}

-- a database has the docket in tables of the first version
abbrev pub IsFirst : Docket → Trees → Type 0
IsFirst docket = IsImageIn First (first_rows docket.court docket.history)

-- in tables of the one version or of the other
abbrev pub IsEitherVersion : Docket → Trees → Type 0
IsEitherVersion docket db = IsFirst docket db ⊎ IsImage (rows_told docket) db

-- Whatever is left, `Left` says that each database in it is of a kind. The docket was not migrated, only because memory ran out, which
-- leaves it in the first version, or because the database failed, which leaves it in one of the two.
abbrev pub Stays : ((Trees → Type 0) → Type 0) → Docket → MigrateFault → Type 0
Stays Left docket NoMemory = Left (IsFirst docket)
Stays Left docket StoreFailed = Left (IsEitherVersion docket)
Stays Left docket _ = ⊥

-- the same by what the connection may leave, unless the disk was not honest
abbrev pub StaysIn : {S : Type 0} → Store S → Held S → Docket → MigrateFault → Type 0
StaysIn g conn docket fault = HasCleanDisk (state g conn) → Stays (λ P. (db : Trees) → (state g conn).may_leave db → P db) docket fault

-- it is left in the second version, or it was not migrated
abbrev pub MigratesTo : {D : Type 0} {g : Ghosts D} → Leftover D g → Docket → Result (Unit {0}) MigrateFault → Type 0
MigratesTo rest docket (Ok done) = LeavesRows rest (rows_told docket) (rows_told docket)
MigratesTo rest docket (Err fault) = Stays (Leaves rest) docket fault

-- whatever database there was, of this kind: it is left, or where the database failed, it or the one that it moves to
abbrev pub StaysOrMoves : {D : Type 0} {g : Ghosts D} → Leftover D g → State → (Trees → Type 0) → MigrateFault → Type 0
StaysOrMoves rest was P StoreFailed = Leaves rest (λ db. P db ⊎ IsImageOfMoved was db)
StaysOrMoves rest was P _ = Leaves rest P

-- The files, which held `start`, were opened, and whatever database it was, its migration had this outcome.
pub record IsMigrated {D : Type 0} {g : Ghosts D} (start : Image) (rest : Leftover D g) (outcome : Result (Unit {0}) MigrateFault) : Type 0 where
  -- the connection, as it was opened and as it came back
  pub opened : Held (FileStore D g)
  pub back : Held (FileStore D g)
  -- it showed the rows that the files held, in whichever version
  pub shows : (v : Version) (rows : Rows) → HoldRows v start rows → ShowsIn v (state over_files opened) rows
  -- sound tables of the first version became those of the second, with the same rows; or the fault is the first cause why they were not sound
  pub moved : OnOk outcome (HasMoved (state over_files opened) (state over_files back))
  pub found : IfErr outcome (λ fault. HasCause First (state over_files opened) (cause_of fault))
  pub spared : (v : Version) (rows : Rows) → HoldRows v start rows → IfErr outcome (StaysOrMoves rest (state over_files opened) (IsImageIn v rows))
