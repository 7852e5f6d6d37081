-- What a migration leaves, from a docket's database to its files.
use Rattle.std.proofs.Common.{◌≡◌, ◌⊎◌, inl, inr, Result, Ok, Err, IfErr, OnOk, subst, sym}
use Rattle.std.proofs.lemmas.Result.{IfErr-weaker, on_ok_weaker}
use Rattle.sqlite_disk.specs.declared.Disk.{Ghosts as Disk}
use Rattle.sqlite_wal.specs.Recovery.{Image}
use Rattle.sqlite.specs.Files.{IsCleanLeft, over_files}
use Rattle.sqlite.specs.Held.{Held, state}
use Rattle.sqlite.specs.State.{HasCleanDisk}
use Rattle.sqlite.specs.Store.{Ghosts}
use Rattle.sqlite.specs.Tree.{Trees}
use Rattle.sqlite.specs.declared.file.Leftover.{Leftover}
use Rattle.docket_columns.specs.declared.version.Version.TheVariants.{First}
use Rattle.docket_migration.specs.Migrating.{IsImageOfMoved, KeepsImages, Migrates, Tells}
use Rattle.docket_scan.specs.Dockets.{MayHold}
use Rattle.docket_scan.specs.Finding.{HasCause}
use Rattle.docket_tables.specs.Stands.{HoldsRowsIn, IsImageIn}
use Rattle.docket_store.specs.Left.{Leaves, LeavesRows}
use Rattle.docket_store.specs.Migrating.{HoldFirst, cause_of, first_rows}
use Rattle.docket_store.specs.declared.migrating.MigrateFault.{MigrateFault}
use Rattle.docket_store.specs.declared.migrating.MigrateFault.TheVariants as migrate
use Rattle.docket_applying.specs.Applying.{IsDocket}
use Rattle.docket_applying.specs.CourtDockets.{CourtDocket as Docket}
use Rattle.file_dockets.specs.Keeping.{rows_told}
use Rattle.file_dockets.specs.Working.{IsDoneOn}
use Rattle.file_changes.specs.Migrates.{IsMigrated, MigratesTo, Stays, StaysOrMoves}
use Rattle.file_changes.specs.Works.{MigratesOver}
use Rattle.file_dockets.proofs.KeepLemmas.{leaves_map}

module _ {S : Type 0} (g : Ghosts S) (old new : Held S) (docket : Docket) (holds : HoldsRowsIn g First old (first_rows docket.court docket.history))
    (trust : HasCleanDisk (state g new) → HasCleanDisk (state g old)) (clean : HasCleanDisk (state g new)) where
  pub stays : (fault : MigrateFault) → Migrates g old new docket.court docket.history (Err (cause_of fault)) → Stays (λ P. (db : Trees) → (state g new).may_leave db → P db) docket fault
  stays migrate.NoMemory is = λ db may. (holds.1 (trust clean)).images db (is.1 clean db may)
  stays migrate.StoreFailed is = λ db may. is.1 clean db may
  stays migrate.Empty is = is clean
  stays migrate.NotADocket is = is clean
  stays migrate.OtherVersion is = is clean
  stays (migrate.Damaged table) is = is clean

-- a docket that was not migrated, by the connection that comes back
pub unmigrated : {S : Type 0} (g : Ghosts S) (old new now : Held S) (fault : MigrateFault) (outcome : Result (Unit {0}) MigrateFault)
    → (HasCleanDisk (state g new) → HasCleanDisk (state g old)) → now ≡ new → outcome ≡ Err fault
    → ((docket : Docket) → IsDocket docket.court docket.history → MayHold First docket.history → HoldsRowsIn g First old (first_rows docket.court docket.history)
    → Migrates g old new docket.court docket.history (Err (cause_of fault))) → Tells g old new (Err (cause_of fault))
    → MigratesOver g old now outcome
unmigrated {S} g old new now fault outcome trust same told migrates tells =
    subst (MigratesOver g old now) (sym told) (subst (λ (conn : Held S). MigratesOver g old conn (Err fault)) (sym same) (record {
      migrated = λ docket is known holds. tt;
      stays = λ docket is known holds clean. stays g old new docket holds trust clean fault (migrates docket is known holds);
      tells = tells;
      trust = trust;
    }))

stays_map : (L M : (Trees → Type 0) → Type 0) → ((P : Trees → Type 0) → L P → M P) → (docket : Docket) (fault : MigrateFault) → Stays L docket fault → Stays M docket fault
stays_map L M more docket migrate.NoMemory is = more _ is
stays_map L M more docket migrate.StoreFailed is = more _ is
stays_map L M more docket migrate.Empty is = is
stays_map L M more docket migrate.NotADocket is = is
stays_map L M more docket migrate.OtherVersion is = is
stays_map L M more docket (migrate.Damaged table) is = is

module _ {D : Type 0} {g : Disk D} where
  migrates_to : (rest : Leftover D g) (may_leave : Trees → Type 0) (docket : Docket) (outcome : Result (Unit {0}) MigrateFault)
      → OnOk outcome (LeavesRows rest (rows_told docket) (rows_told docket)) → IfErr outcome (λ _. Leaves rest may_leave)
      → IfErr outcome (Stays (λ P. (db : Trees) → may_leave db → P db) docket) → MigratesTo rest docket outcome
  migrates_to rest may_leave docket (Ok done) rows images is = rows
  migrates_to rest may_leave docket (Err fault) rows images is =
      stays_map (λ P. (db : Trees) → may_leave db → P db) (Leaves rest) (λ P all. leaves_map rest may_leave P all images) docket fault is

  -- from a connection to the files that it leaves
  pub migrated_on : (start : Image) (outcome : Result (Unit {0}) MigrateFault) (rest : Leftover D g) (docket : Docket)
      → IsDoneOn start (λ old new. MigratesOver over_files old new) outcome rest → IsDocket docket.court docket.history → MayHold First docket.history
      → HoldFirst start docket.court docket.history → IsCleanLeft rest → MigratesTo rest docket outcome
  migrated_on start outcome rest docket done is known files clean =
      let holds = done.holds First (first_rows docket.court docket.history) files in
      migrates_to rest (state over_files done.back).may_leave docket outcome
      (on_ok_weaker outcome (λ now. done.left (rows_told docket) (rows_told docket) now clean) (done.comes.migrated docket is known holds))
      done.images
      (IfErr-weaker outcome _ _ (λ fault kept. kept (done.trust clean)) (done.comes.stays docket is known holds))

module _ {S : Type 0} (g : Ghosts S) (old new : Held S) (clean : HasCleanDisk (state g new)) where
  -- the fault is the first cause
  cause_found : (fault : MigrateFault) → Tells g old new (Err (cause_of fault)) → HasCause First (state g old) (cause_of fault)
  cause_found migrate.NoMemory is = tt
  cause_found migrate.StoreFailed is = tt
  cause_found migrate.Empty is = is.1 clean
  cause_found migrate.NotADocket is = is.1 clean
  cause_found migrate.OtherVersion is = is.1 clean
  cause_found (migrate.Damaged table) is = is.1 clean

  module _ {D : Type 0} {d : Disk D} (P : Trees → Type 0) (held : (db : Trees) → (state g old).may_leave db → P db) (rest : Leftover D d) (images : Leaves rest (state g new).may_leave) where
    same : KeepsImages g old new → Leaves rest P
    same keeps = leaves_map rest (state g new).may_leave P (λ db may. held db (keeps clean db may)) images

    either : (db : Trees) → (state g old).may_leave db ⊎ IsImageOfMoved (state g old) db → P db ⊎ IsImageOfMoved (state g old) db
    either db (inl was) = inl (held db was)
    either db (inr moved) = inr moved

    -- what was there is left
    stays_or_moves : (fault : MigrateFault) → Tells g old new (Err (cause_of fault)) → StaysOrMoves rest (state g old) P fault
    stays_or_moves migrate.NoMemory is = same is.0
    stays_or_moves migrate.StoreFailed is =
        leaves_map rest (state g new).may_leave (λ db. P db ⊎ IsImageOfMoved (state g old) db) (λ db may. either db (is clean db may)) images
    stays_or_moves migrate.Empty is = same is.0
    stays_or_moves migrate.NotADocket is = same is.0
    stays_or_moves migrate.OtherVersion is = same is.0
    stays_or_moves (migrate.Damaged table) is = same is.0

module _ {D : Type 0} {g : Disk D} (start : Image) (rest : Leftover D g) where
  -- any database, from a connection to the files that it leaves
  pub told_on : (outcome : Result (Unit {0}) MigrateFault) → IsDoneOn start (λ old new. MigratesOver over_files old new) outcome rest → IsCleanLeft rest → IsMigrated start rest outcome
  told_on (Ok done) over left = record {
    opened = over.opened;
    back = over.back;
    shows = λ v rows files. ((over.holds v rows files).1 (over.comes.trust (over.trust left))).shows;
    moved = (over.comes.tells (over.trust left)).0;
    found = tt;
    spared = λ v rows files. tt;
  }
  told_on (Err fault) over left = record {
    opened = over.opened;
    back = over.back;
    shows = λ v rows files. ((over.holds v rows files).1 (over.comes.trust (over.trust left))).shows;
    moved = tt;
    found = cause_found over_files over.opened over.back (over.trust left) fault over.comes.tells;
    spared = λ v rows files.
        stays_or_moves over_files over.opened over.back (over.trust left) (IsImageIn v rows) ((over.holds v rows files).1 (over.comes.trust (over.trust left))).images rest over.images
        fault over.comes.tells;
  }
