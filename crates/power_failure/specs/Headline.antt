-- The promise of a docket over whole runs: stopped before or within any write and reopened, it is the docket that a prefix of the accepted
-- commands defines; this prefix holds every acknowledged command, and at most the one under way besides.
--
-- A docket is a list of accepted commands, its history; `run court h cs` is that of h and of those of cs that are accepted, each judged
-- in the history before it. A stop is a disk that fails from some call on; a power failure leaves of each file what its disk may leave.
use Rattle.std.specs.Prelude.{◌≡◌, ◌+◌, ◌<◌, ◌≤◌, ⊤, ℕ, List, length, take, Option, Some, None, Result, Err}
use Rattle.std.specs.Io.KnownBytes.{Appends}
use Rattle.std.specs.Option.{option_map}
use Rattle.sqlite_disk.specs.declared.Disk.{Ghosts as Disk}
use Rattle.sqlite_disk.specs.declared.Files.{Files}
use Rattle.sqlite_store.specs.declared.store.FileStore.{FileStore}
use Rattle.sqlite_wal.specs.Reads.{AreClean}
use Rattle.sqlite_wal.specs.Recovery.{Image}
use Rattle.sqlite.specs.Files.{image_of, over_files}
use Rattle.sqlite.specs.Held.{state}
use Rattle.sqlite.specs.Store.{Ghosts}
use Rattle.sqlite.specs.State.{HasCleanDisk}
use Rattle.court_days.specs.Court.{CourtSettings}
use Rattle.docket_command.specs.declared.command.Command.{Command}
use Rattle.docket_command.specs.declared.refusal.Refusal.{Refusal}
use Rattle.docket_command.specs.declared.refusal.Reply.{Reply}
use Rattle.docket_history.specs.Histories.{History}
use Rattle.docket_decisions.specs.Outcomes.{run}
use Rattle.docket_history.specs.Records.{case_record, deadline_lines}
use Rattle.docket_calendar.specs.Calendar.{calendar_rows, text_of_calendar}
use Rattle.docket_applying.specs.Applying.{Asks, IsDocket, Stands, docket_rows}
use Rattle.docket_applying.specs.Dockets.{Docket}
use Rattle.docket_store.specs.Opening.{IsNotAdopted}
use Rattle.docket_store.specs.Reopening.{HoldDocket, IsNotOpened, IsNotRecovered, MayLeave}
use Rattle.docket_store.specs.Sessions.{AnswersFirst}
use Rattle.docket_applying.specs.declared.fault.Fault.{Fault}
use Rattle.docket_applying.specs.declared.listing.CalendarEnd.TheVariants.{Store, WriteFailed}
use Rattle.docket_store.specs.declared.recovering.RecoverFault.TheVariants.{NotOpened, NotAdopted}
use Rattle.power_failure.specs.PowerFailures.{IsLeftOf}
use Rattle.power_failure.specs.declared.running.Interrupted.{Interrupted}
use Rattle.power_failure.specs.declared.running.NotReopened.{NotReopened}
use Rattle.power_failure.specs.declared.running.NotReopened.TheVariants.{Before, After}
use Rattle.power_failure.specs.declared.running.Reopened.{Reopened}
use Rattle.power_failure.specs.declared.telling.Question.{Question}
use Rattle.power_failure.specs.declared.telling.TellFault.{TellFault}
use Rattle.power_failure.specs.declared.telling.TellFault.TheVariants.{Case, Calendar}
use Rattle.power_failure.specs.declared.telling.Told.{Told}
use Rattle.power_failure.specs.declared.telling.Untold.{Untold}
use Rattle.power_failure.specs.declared.telling.Untold.TheVariants as untold

-- the first n commands are those that were acknowledged, and at most one more
pub record IsPrefix (acknowledged n : ℕ) (cs : List Command) : Type 0 where
  pub holds : acknowledged ≤ n
  pub one_more : n ≤ acknowledged + 1
  pub within : n ≤ length cs

-- all commands were acknowledged, or the place of the one after those is returned
abbrev pub StopsAt : List Command → ℕ → Option (ℕ × Fault) → Type 0
StopsAt cs acknowledged None = acknowledged ≡ length cs
StopsAt cs acknowledged (Some at) = (at.0 ≡ acknowledged) × (acknowledged < length cs)

-- something holds of the docket that such a prefix defines
abbrev pub OfPrefix : CourtSettings → History → List Command → ℕ → (History → Type 0) → Type 0
OfPrefix court h cs acknowledged P =
    ∥ ((n : ℕ) × IsPrefix acknowledged n cs × IsDocket court (run court h (take n cs)) × P (run court h (take n cs))) ∥₁

-- a run acknowledged the first commands, each with its answer in the docket of those before it, and something holds of the docket of a prefix
abbrev pub AnswersPrefix : CourtSettings → History → List Command → List (Result Reply Refusal) → Option (ℕ × Fault) → (History → Type 0) → Type 0
AnswersPrefix court h cs replies stopped_at P =
    AnswersFirst court h cs replies × StopsAt cs (length replies) stopped_at × OfPrefix court h cs (length replies) P

-- after these answers the files hold the docket of a prefix
abbrev pub LeavesAnswered : {D : Type 0} → Disk D → CourtSettings → History → List Command → List (Result Reply Refusal) → Option (ℕ × Fault)
    → Files D → Type 0
LeavesAnswered g court h cs replies stopped_at files =
    AreClean g files.log files.db → AnswersPrefix court h cs replies stopped_at (λ now. HoldDocket (image_of g files) court now)

-- a run that a power failure ended leaves its files so
abbrev pub LeavesPrefix : {D : Type 0} → Disk D → CourtSettings → History → List Command → Interrupted D → Type 0
LeavesPrefix g court h cs it = LeavesAnswered g court h cs it.replies.items it.stopped_at it.files

-- whatever the two disks might have left as the power failed, it is the docket of a prefix, and what they left is one of these
abbrev pub LeavesOnlyPrefixes : {D : Type 0} → (g : Disk D) → CourtSettings → History → List Command → Interrupted D → Type 0
LeavesOnlyPrefixes {D} g court h cs it =
    (last : FileStore D g)
    × IsLeftOf last it.files
    × (AreClean g it.files.log it.files.db → (image : Image) → MayLeave last image
    → OfPrefix court h cs (length it.replies.items) (λ now. HoldDocket image court now))

-- the same for the docket that is adopted then
abbrev pub IsPrefixReopened : {D : Type 0} {g : Disk D} → CourtSettings → History → List Command → Reopened D g → Type 0
IsPrefixReopened court h cs it =
    HasCleanDisk (state over_files it.docket.conn)
    → AnswersPrefix court h cs it.replies.items it.stopped_at (λ now. Stands over_files it.docket now × (it.docket.court ≡ court))

-- if no docket was found: by the first run, the docket that the files held stays in them. By the next: the first run left its files as ever.
-- They hold what they held if they could not be opened, and otherwise the docket of the prefix. The fault of files that were opened is out of
-- memory or a failure of the database
abbrev pub KeepsPrefix : {D : Type 0} {g : Disk D} → CourtSettings → History → List Command → NotReopened D g → Type 0
KeepsPrefix court h cs (Before fault) = IsNotRecovered court h h fault
KeepsPrefix {D} {g} court h cs (After replies stopped_at (NotOpened error left)) =
    (files : Files D) × LeavesAnswered g court h cs replies.items stopped_at files × IsNotOpened files (NotOpened error left)
KeepsPrefix court h cs (After replies stopped_at (NotAdopted returned)) =
    HasCleanDisk (state over_files returned.connection)
    → AnswersPrefix court h cs replies.items stopped_at (λ now. IsNotAdopted over_files returned.connection (docket_rows court now) returned.fault)

-- files that the first run could not open hold what they held
abbrev pub KeepsFiles : {D : Type 0} {g : Disk D} → Files D → NotReopened D g → Type 0
KeepsFiles files (Before fault) = IsNotOpened files fault
KeepsFiles files (After replies stopped_at fault) = ⊤

-- the answer follows from the docket's history. It gives the case, with its parties and its entries, and its deadlines, each with the date or
-- the hour that the rules give by the court's whole calendar. It lists the deadlines that end on a day of a range, in order
pub record Tells (court : CourtSettings) (h : History) (asked : Question) (before after : Option (List ℕ)) (told : Told) : Type 0 where
  pub case : told.case ≡ case_record h asked.number
  pub deadlines : option_map (λ lines. lines.items) told.deadlines ≡ deadline_lines court h asked.number
  pub calendar : Appends before after (text_of_calendar court h asked.from asked.to)
  pub lines : told.lines ≡ length (calendar_rows court h asked.from asked.to)

-- the whole answer, of the docket of a prefix
abbrev pub IsPrefixTold : {D : Type 0} {g : Disk D} → CourtSettings → History → List Command → Question → Option (List ℕ) → Option (List ℕ)
    → Reopened D g → Told → Type 0
IsPrefixTold court h cs asked before after it told =
    HasCleanDisk (state over_files it.docket.conn)
    → AnswersPrefix court h cs it.replies.items it.stopped_at
    (λ now. Stands over_files it.docket now × (it.docket.court ≡ court) × Tells court now asked before after told)

-- a docket without an answer, or without a whole one, is as after any question: it stays; if the database failed, a power failure leaves it.
-- The fault is out of memory or a failure of the database or of the writer
abbrev pub StaysUntold : {S : Type 0} → Ghosts S → Docket S → History → TellFault → Type 0
StaysUntold g d h (Case fault) = Asks g d h (λ (found : ℕ). ⊥) (Err fault)
StaysUntold g d h (Calendar (Store fault)) = Asks g d h (λ (lines : ℕ). ⊥) (Err fault)
StaysUntold g d h (Calendar WriteFailed) = Stands g d h

-- the same if nothing was answered: no docket was found, or that of a prefix was, and it stays
abbrev pub KeepsUntold : {D : Type 0} {g : Disk D} → CourtSettings → History → List Command → Untold D g → Type 0
KeepsUntold court h cs (untold.NotReopened fault) = KeepsPrefix court h cs fault
KeepsUntold court h cs (untold.NotTold found fault) =
    HasCleanDisk (state over_files found.docket.conn)
    → AnswersPrefix court h cs found.replies.items found.stopped_at
    (λ now. StaysUntold over_files found.docket now fault × (found.docket.court ≡ court))

abbrev pub KeepsFilesUntold : {D : Type 0} {g : Disk D} → Files D → Untold D g → Type 0
KeepsFilesUntold files (untold.NotReopened fault) = KeepsFiles files fault
KeepsFilesUntold files (untold.NotTold found fault) = ⊤
