-- The result of one command to a docket, and what it leaves.
use Rattle.std.specs.Prelude.{◌≡◌, ◌⊎◌, ◌<◌, ◌^◌, ℕ, List, Result, Ok, Err}
use Rattle.sqlite_disk.specs.declared.Disk.{Ghosts}
use Rattle.sqlite_wal.specs.Recovery.{Image}
use Rattle.sqlite_store.specs.declared.store.FileStore.{FileStore}
use Rattle.sqlite.specs.Files.{over_files}
use Rattle.sqlite.specs.Held.{Held, state}
use Rattle.sqlite.specs.State.{State}
use Rattle.sqlite.specs.declared.file.Leftover.{Leftover}
use Rattle.court_days.specs.Court.{CourtSettings}
use Rattle.docket_columns.specs.declared.version.Version.TheVariants.{Second}
use Rattle.docket_command.specs.declared.command.Command.{Command}
use Rattle.docket_command.specs.declared.refusal.Reply.{Reply}
use Rattle.docket_decisions.specs.Outcomes.{accepted, outcome, refused, repeated}
use Rattle.docket_decisions.specs.declared.end_row.StoredEnd.{StoredEnd}
use Rattle.docket_scan.specs.Finding.{AreSound}
use Rattle.docket_scan.specs.Judging.{Rows as SoundRows}
use Rattle.docket_tables.specs.AnyRows.{AreDocketRows, HasReceipt}
use Rattle.docket_tables.specs.Layouts.{Rows}
use Rattle.docket_tables.specs.Stands.{ShowsIn}
use Rattle.docket_applying.specs.AnyRows.{IsNext}
use Rattle.docket_applying.specs.declared.fault.Fault.{Fault}
use Rattle.docket_applying.specs.declared.fault.Fault.TheVariants.{NoMemory, Refused, StoreFailed}
use Rattle.docket_applying.specs.CourtDockets.{CourtDocket as Docket}
use Rattle.docket_store.specs.Left.{LeavesRows}
use Rattle.docket_store.specs.Reopening.{HoldRows}
use Rattle.command_lines.specs.Lines.{docket_with}
use Rattle.file_dockets.specs.Keeping.{Keeps, rows_told}

-- a reply leaves the docket after the command; a refusal or lack of memory the docket as it was; where the database failed one of them is left
abbrev pub AppliesTo : (Rows → Rows → Type 0) → Docket → Command → Result Reply Fault → Type 0
AppliesTo Left docket c (Ok reply) =
    ((outcome docket.court docket.history c ≡ accepted reply) ⊎ (outcome docket.court docket.history c ≡ repeated reply))
    × Keeps Left (docket_with docket c)
AppliesTo Left docket c (Err (Refused r)) = (outcome docket.court docket.history c ≡ refused r) × Keeps Left docket
AppliesTo Left docket c (Err NoMemory) = Keeps Left docket
AppliesTo Left docket c (Err StoreFailed) = Left (rows_told docket) (rows_told (docket_with docket c))
AppliesTo Left docket c (Err _) = ⊥

-- any rows of a docket's tables: the command is written whole, with its receipt, or not at all
abbrev pub LeavesWhole : (Rows → Rows → Type 0) → CourtSettings → ℕ → Rows → Command → Result Reply Fault → Type 0
LeavesWhole Left court n rows c (Ok reply) = (Left rows rows × HasReceipt c reply rows) ⊎ ((next : Rows) × IsNext court n rows c reply next × Left next next)
LeavesWhole Left court n rows c (Err StoreFailed) = Left rows rows ⊎ ((next : Rows) × (reply : Reply) × IsNext court n rows c reply next × Left rows next)
LeavesWhole Left court n rows c (Err _) = Left rows rows

-- the tables of the database are sound, those of this court, and the same holds for their rows, whichever of those that were `Held` they are
pub record IsWritten (s : State) (Held : Rows → Type 0) (Left : Rows → Rows → Type 0) (c : Command) (answer : Result Reply Fault) : Type 0 where
  pub court : CourtSettings
  pub found : SoundRows
  pub sound : AreSound Second s court found
  pub left : (rows : Rows) (n : ℕ) (stored : List StoredEnd) → AreDocketRows court n stored rows → n < 2 ^ 62 → Held rows → LeavesWhole Left court n rows c answer

-- the same for files, which held `start`, by their database as it was opened
pub record IsWrittenOn {D : Type 0} {g : Ghosts D} (start : Image) (rest : Leftover D g) (c : Command) (answer : Result Reply Fault) : Type 0 where
  pub opened : Held (FileStore D g)
  pub shows : (rows : Rows) → HoldRows Second start rows → ShowsIn Second (state over_files opened) rows
  pub written : IsWritten (state over_files opened) (HoldRows Second start) (LeavesRows rest) c answer
