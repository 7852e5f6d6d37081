-- What a run leaves for the next one.
use Rattle.std.specs.Prelude.{◌≡◌, ◌⊎◌, ⊤, IsTrue, MatchResult, Result, Ok, Err}
use Rattle.sqlite_disk.specs.declared.Disk.{Ghosts as Disk}
use Rattle.sqlite_disk.specs.declared.Files.{Files}
use Rattle.sqlite_wal.specs.Recovery.{Image}
use Rattle.sqlite_store.specs.declared.store.FileStore.{FileStore}
use Rattle.sqlite_store.specs.FileStore.{state, view, recovers}
use Rattle.sqlite.specs.Store.{Ghosts}
use Rattle.sqlite.specs.Tree.{Trees}
use Rattle.sqlite.specs.Files.{FailsToOpenFiles, IsCleanLeft, LeavesFiles, over_files}
use Rattle.sqlite.specs.Held as held
use Rattle.sqlite.specs.Held.{Held}
use Rattle.sqlite.specs.State.{HasCleanDisk}
use Rattle.court_days.specs.Court.{CourtSettings}
use Rattle.docket_columns.specs.declared.version.Version.{Version}
use Rattle.docket_columns.specs.declared.version.Version.TheVariants.{Second}
use Rattle.docket_command.specs.declared.command.Command.{Command}
use Rattle.docket_command.specs.declared.refusal.Reply.{Reply}
use Rattle.docket_history.specs.Histories.{History}
use Rattle.docket_decisions.specs.Outcomes.{after}
use Rattle.docket_tables.specs.Layouts.{Rows}
use Rattle.docket_tables.specs.Stands.{IsImage, IsImageIn}
use Rattle.docket_applying.specs.Applying.{StandsFor, Stands, docket_rows, Applies, Faults}
use Rattle.docket_applying.specs.Dockets.{Docket}
use Rattle.docket_store.specs.Left.{HoldSome}
use Rattle.docket_store.specs.Opening.{IsNotAdopted}
use Rattle.docket_applying.specs.declared.fault.Fault.{Fault}
use Rattle.docket_store.specs.declared.recovering.RecoverFault.{RecoverFault}
use Rattle.docket_store.specs.declared.recovering.RecoverFault.TheVariants.{NotOpened, NotAdopted}

-- the database file and its log hold the rows, in the tables of the version
abbrev pub HoldRows : Version → Image → Rows → Type 0
HoldRows v files rows = HoldSome (IsImageIn v rows) files

-- the database file and its log hold the docket
abbrev pub HoldDocket : Image → CourtSettings → History → Type 0
HoldDocket files court h = HoldRows Second files (docket_rows court h)

-- a power failure leaves the docket of the one history or of the other
pub record LeavesEither {D : Type 0} {g : Disk D} (it : FileStore D g) (court : CourtSettings) (h next : History) : Type 0 where
  -- this holds of the store of every connection
  pub numbered : IsTrue (view it).is_numbered
  pub images : (db : Trees) → recovers it db → IsImage (docket_rows court h) db ⊎ IsImage (docket_rows court next) db

-- the two files may hold these bytes after a power failure at this moment
abbrev pub MayLeave : {D : Type 0} {g : Disk D} → FileStore D g → Image → Type 0
MayLeave it files = (state it).may_leave files

-- the files hold the docket of the one history or of the other
abbrev pub HoldEither : Image → CourtSettings → History → History → Type 0
HoldEither files court h next = ∥ HoldDocket files court h ⊎ HoldDocket files court next ∥₁

-- the connection holds the docket of the one history or of the other
abbrev pub StandsForEither : {S : Type 0} → Ghosts S → Held S → CourtSettings → History → History → Type 0
StandsForEither g conn court h next = ∥ StandsFor g conn court h ⊎ StandsFor g conn court next ∥₁

-- the docket of the court is that of the one history or of the other
abbrev pub IsEither : {S : Type 0} → Ghosts S → Docket S → CourtSettings → History → History → Type 0
IsEither g d court h next =
    HasCleanDisk (held.state g d.conn) → ∥ (Stands g d h ⊎ Stands g d next) × (d.court ≡ court) ∥₁

-- if the files were not opened, the error follows from what failed, and they hold what they held
abbrev pub IsNotOpened : {D : Type 0} {g : Disk D} → Files D → RecoverFault D g → Type 0
IsNotOpened files (NotOpened error left) = IsCleanLeft left → FailsToOpenFiles files left error × LeavesFiles files left
IsNotOpened files (NotAdopted returned) = ⊤

-- if they were opened and the docket was not adopted, it stays, that of the one history or of the other. The fault is out of memory
-- or a failure of the database
abbrev pub IsNotRecovered : {D : Type 0} {g : Disk D} → CourtSettings → History → History → RecoverFault D g → Type 0
IsNotRecovered court h next (NotOpened error left) = ⊤
IsNotRecovered court h next (NotAdopted returned) =
    ∥ IsNotAdopted over_files returned.connection (docket_rows court h) returned.fault
    ⊎ IsNotAdopted over_files returned.connection (docket_rows court next) returned.fault ∥₁

-- a command that is sent again and that the docket may hold already: it is answered, and the docket holds it once
abbrev pub AppliesOnce : {S : Type 0} → Ghosts S → Docket S → CourtSettings → History → Command → Result Reply Fault → Type 0
AppliesOnce g d court h c (Ok reply) = ∥ Applies g d h c (Ok reply) × (d.court ≡ court) ∥₁
AppliesOnce g d court h c (Err fault) = ∥ (Faults g d h c fault ⊎ Faults g d (after court h c) c fault) × (d.court ≡ court) ∥₁

-- a run continues where one stopped at a command, and sends it again; or the docket was not recovered
abbrev pub GoesOn : {D : Type 0} {g : Disk D} → CourtSettings → History → Command → Result (Docket (FileStore D g) × Result Reply Fault) (RecoverFault D g) → Type 0
GoesOn court h c result =
    MatchResult result (λ r. HasCleanDisk (held.state over_files r.0.conn) → AppliesOnce over_files r.0 court h c r.1) (IsNotRecovered court h (after court h c))
