-- The outcome of a work that first adopts the docket of a database, whatever database it is, over a connection and over files.
use Rattle.std.specs.Prelude.{Option, Result, IfErr, IfOk}
use Rattle.sqlite_disk.specs.declared.Disk.{Ghosts as Disk}
use Rattle.sqlite_wal.specs.Recovery.{Image}
use Rattle.sqlite_store.specs.declared.store.FileStore.{FileStore}
use Rattle.sqlite.specs.Files.{over_files}
use Rattle.sqlite.specs.Held.{Held, state}
use Rattle.sqlite.specs.State.{HasCleanDisk, State, Survives}
use Rattle.sqlite.specs.Store.{Ghosts}
use Rattle.sqlite.specs.declared.error.Error.{Error}
use Rattle.sqlite.specs.declared.file.Leftover.{Leftover}
use Rattle.court_days.specs.Court.{CourtSettings}
use Rattle.docket_columns.specs.declared.version.Version.{Version}
use Rattle.docket_columns.specs.declared.version.Version.TheVariants.{Second}
use Rattle.docket_scan.specs.Finding.{AreSound, HasCause}
use Rattle.docket_scan.specs.Judging.{Rows as SoundRows}
use Rattle.docket_scan.specs.declared.fault.AdoptFault.{AdoptFault}
use Rattle.docket_store.specs.Causes.{IsCausedOpening}
use Rattle.docket_store.specs.Left.{Leaves}
use Rattle.docket_store.specs.Opening.{IsRejected, WasSound}
use Rattle.docket_store.specs.Reopening.{HoldRows}
use Rattle.docket_tables.specs.Layouts.{Rows}
use Rattle.docket_tables.specs.Stands.{IsImageIn, ShowsIn}

-- By what the connection held, `old`, and as it comes back, `new`; `failure` is the error of the database that is reported with a fault.
pub record AdoptsOver {S : Type 0} (g : Ghosts S) (old new : Held S) (failure : Option Error) {T : Type 0} (outcome : Result T AdoptFault) : Type 0 where
  -- the work was done where the tables were sound
  pub sound : IfOk outcome (λ _. WasSound g old new)
  -- where it was not, the fault is the first cause that was found, unless memory or the database failed
  pub rejected : IfErr outcome (IsRejected g old new)
  -- where the database failed, there was a cause
  pub caused : IfErr outcome (λ fault. HasCleanDisk (state g new) → IsCausedOpening (state g old) (state g new) failure fault)
  -- and nothing was written
  pub kept : IfErr outcome (λ _. Survives (state g old) (state g new) (λ _. ⊥))
  -- a disk that is honest then was honest before
  pub trust : HasCleanDisk (state g new) → HasCleanDisk (state g old)

-- the tables of a database are those of some docket
abbrev pub HasSoundTables : State → Type 0
HasSoundTables s = (court : CourtSettings) × (r : SoundRows) × AreSound Second s court r

-- The files, which held `start`, were opened and their database was checked, with this outcome; `rest` is left of them.
pub record IsJudged {D : Type 0} {g : Disk D} {T : Type 0} (start : Image) (rest : Leftover D g) (failure : Option Error) (outcome : Result T AdoptFault) : Type 0 where
  -- the connection, as it was opened and as it came back
  pub opened : Held (FileStore D g)
  pub back : Held (FileStore D g)
  -- it showed the rows that the files held, in whichever version
  pub shows : (v : Version) (rows : Rows) → HoldRows v start rows → ShowsIn v (state over_files opened) rows
  -- the work was done on sound tables; where it was not, the fault is the first cause, or that memory or, for a cause, the database failed
  pub sound : IfOk outcome (λ _. HasSoundTables (state over_files opened))
  pub found : IfErr outcome (HasCause Second (state over_files opened))
  pub caused : IfErr outcome (IsCausedOpening (state over_files opened) (state over_files back) failure)
  -- and the files hold what they held
  pub spared : (v : Version) (rows : Rows) → HoldRows v start rows → IfErr outcome (λ _. Leaves rest (IsImageIn v rows))
