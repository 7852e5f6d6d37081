-- What becomes of the files at a path where a work is done on them.
use Rattle.std.specs.Prelude.{Result, IfErr}
use Rattle.sqlite_disk.specs.declared.Disk.{Ghosts}
use Rattle.sqlite_wal.specs.Recovery.{Image}
use Rattle.sqlite_store.specs.declared.store.FileStore.{FileStore}
use Rattle.sqlite.specs.Files.{IsCleanLeft, over_files}
use Rattle.sqlite.specs.Held.{Held, state}
use Rattle.sqlite.specs.State.{HasCleanDisk}
use Rattle.sqlite.specs.declared.file.Leftover.{Leftover}
use Rattle.docket_columns.specs.declared.version.Version.{Version}
use Rattle.docket_tables.specs.Layouts.{Rows}
use Rattle.docket_tables.specs.Stands.{HoldsRowsIn}
use Rattle.docket_store.specs.Left.{Leaves, LeavesRows}
use Rattle.docket_store.specs.Reopening.{HoldRows}
use Rattle.file_dockets.specs.Keeping.{HoldsBetween}

-- The files, which held `start`, were opened, a work had this outcome over the connection, and they were closed.
pub record IsDoneOn {D : Type 0} {g : Ghosts D} {T F : Type 0} (start : Image) (Comes : Held (FileStore D g) → Held (FileStore D g) → Result T F → Type 0)
    (outcome : Result T F) (rest : Leftover D g) : Type 0 where
  -- the connection, as it was opened and as it came back
  pub opened : Held (FileStore D g)
  pub back : Held (FileStore D g)
  pub comes : Comes opened back outcome
  -- it held the rows that the files held
  pub holds : (v : Version) (rows : Rows) → HoldRows v start rows → HoldsRowsIn over_files v opened rows
  -- what it holds is left; where the work failed, whatever it may leave
  pub trust : IsCleanLeft rest → HasCleanDisk (state over_files back)
  pub left : (rows next : Rows) → HoldsBetween over_files back rows next → IsCleanLeft rest → LeavesRows rest rows next
  pub images : IfErr outcome (λ _. Leaves rest (state over_files back).may_leave)
