-- The outcome of a question over a connection, and what is left of the files.
use Rattle.std.specs.Prelude.{Option, Result, IfErr, IfOk}
use Rattle.sqlite_disk.specs.declared.Disk.{Ghosts as Disk}
use Rattle.sqlite_wal.specs.Recovery.{Image}
use Rattle.sqlite.specs.Files.{IsCleanLeft}
use Rattle.sqlite.specs.Held.{Held, state}
use Rattle.sqlite.specs.State.{HasCleanDisk}
use Rattle.sqlite.specs.Store.{Ghosts}
use Rattle.sqlite.specs.declared.error.Error.{Error}
use Rattle.sqlite.specs.declared.file.Leftover.{Leftover}
use Rattle.court_days.specs.Court.{CourtSettings}
use Rattle.docket_columns.specs.declared.version.Version.{Version}
use Rattle.docket_columns.specs.declared.version.Version.TheVariants.{Second}
use Rattle.docket_history.specs.Histories.{History}
use Rattle.docket_scan.specs.declared.fault.AdoptFault.{AdoptFault}
use Rattle.docket_tables.specs.Layouts.{Rows}
use Rattle.docket_tables.specs.Stands.{HoldsRows, IsImageIn}
use Rattle.docket_applying.specs.Applying.{IsDocket, StandsFor}
use Rattle.docket_applying.specs.CourtDockets.{CourtDocket as Docket}
use Rattle.docket_store.specs.Left.{IsUnharmed, LeavesRows}
use Rattle.docket_store.specs.Reopening.{HoldRows}
use Rattle.file_dockets.specs.Adopting.{AdoptsOver, IsJudged}
use Rattle.file_dockets.specs.Keeping.{HoldsBetween}
use Rattle.file_dockets.specs.Works.{WorksTo}
use Rattle.file_dockets.specs.declared.ended.Ended.{Ended}

-- This is the answer about the docket that the connection held, `old`; as it comes back, `new`, it holds the same.
pub record AsksOver {S : Type 0} (g : Ghosts S) (old new : Held S) {T : Type 0} (Tells : CourtSettings → History → T → Type 0) (failure : Option Error)
    (outcome : Result T AdoptFault) : Type 0 where
  pub adopts : AdoptsOver g old new failure outcome
  pub told : (told : Docket) → IsDocket told.court told.history → StandsFor g old told.court told.history → HasCleanDisk (state g new)
      → WorksTo (Tells told.court told.history) outcome
  pub stays : (rows : Rows) → HoldsRows g old rows → HoldsBetween g new rows rows

-- A question to the files at a path, which held `start`, ended so: nothing is changed, whatever they held.
pub record OnlyAsks {D : Type 0} {g : Disk D} {T : Type 0} (start : Image) (ended : Result (Ended D T AdoptFault g) (Error × Option (Leftover D g))) : Type 0 where
  -- the rows of a docket's tables stay, whichever they are
  pub stays : (rows : Rows) → HoldRows Second start rows → IfOk ended (λ it. IsCleanLeft it.left → LeavesRows it.left rows rows)
  -- the tables are sound, or the fault says why there is no docket, and what the files held stays, in whichever version
  pub judged : IfOk ended (λ it. IsCleanLeft it.left → IsJudged start it.left it.failure it.outcome)
  -- and so it does in files that were not opened
  pub unopened : (v : Version) (rows : Rows) → HoldRows v start rows → IfErr ended (IsUnharmed start (IsImageIn v rows))
