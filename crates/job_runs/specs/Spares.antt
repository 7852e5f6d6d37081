-- What becomes of the files of a job's docket, whatever they held.
use Rattle.std.specs.Prelude.{◌≡◌, ◌⊎◌, ℕ, Bool, true, false, List, [], Option, Some, Result, Ok, Err, IfSome}
use Rattle.std.specs.Cow.{cow_str_bytes}
use Rattle.sqlite_disk.specs.declared.Disk.{Ghosts}
use Rattle.sqlite_wal.specs.Recovery.{Image}
use Rattle.sqlite_store.specs.declared.store.FileStore.{FileStore}
use Rattle.sqlite.specs.Files.{IsCleanLeft, over_files}
use Rattle.sqlite.specs.Held.{Held, state}
use Rattle.sqlite.specs.declared.file.Leftover.{Leftover}
use Rattle.docket_columns.specs.declared.version.Version.{Version}
use Rattle.docket_columns.specs.declared.version.Version.TheVariants.{Second}
use Rattle.docket_command.specs.declared.command.Command.{Command}
use Rattle.docket_command.specs.declared.new_day.NewDay.{NewDay}
use Rattle.docket_command.specs.declared.refusal.Reply.{Reply}
use Rattle.docket_applying.specs.declared.fault.Fault.{Fault}
use Rattle.docket_scan.specs.Finding.{HasCause}
use Rattle.docket_scan.specs.declared.fault.AdoptFault.{AdoptFault}
use Rattle.docket_jobs.specs.declared.job.Job.{Job}
use Rattle.docket_jobs.specs.declared.job.Job.TheVariants as job
use Rattle.docket_store.specs.Left.{Leaves, LeavesRows}
use Rattle.docket_store.specs.Reopening.{HoldRows}
use Rattle.docket_store.specs.declared.creating.CreateFault.{CreateFault}
use Rattle.docket_store.specs.declared.creating.CreateFault.TheVariants.{NotEmpty}
use Rattle.docket_store.specs.declared.migrating.MigrateFault.{MigrateFault}
use Rattle.docket_tables.specs.Layouts.{Rows}
use Rattle.docket_tables.specs.Stands.{IsImageIn, ShowsIn}
use Rattle.day_tables.specs.CalendarCsv.{IsTable}
use Rattle.file_changes.specs.Commands.{IsWrittenOn}
use Rattle.file_changes.specs.Migrates.{IsMigrated}
use Rattle.file_dockets.specs.Adopting.{HasSoundTables}
use Rattle.job_ends.specs.Ends.{SaysFault, SaysUnopened, unadopted_at, uncreated_at, unmigrated_at}
use Rattle.job_ends.specs.declared.end.JobEnd.{JobEnd}
use Rattle.job_ends.specs.declared.status.Status.{Status}
use Rattle.job_ends.specs.declared.status.Status.TheVariants.{Done, Failed}
use Rattle.job_runs.specs.Imports.{TellsApplied}
use Rattle.job_runs.specs.Jobs.{FailsOr, IfUnopened, import_command}

-- a job failed by a fault of the file at a path, and the standard error says which
abbrev pub FailsBy : List ℕ → Status → Option (List ℕ) → Option (List ℕ) → AdoptFault → Type 0
FailsBy path status before after fault = (status ≡ Failed) × SaysFault (unadopted_at path fault) before after

-- a docket was made in the file at a path, and the standard error is as it was; or none was, and it says why. Where the files held one, of
-- either version, it says that
abbrev pub TellsMade : List ℕ → Image → Option (List ℕ) → Option (List ℕ) → Status → Type 0
TellsMade path files before after Done = after ≡ before
TellsMade path files before after Failed =
    (fault : CreateFault) × SaysFault (uncreated_at path fault) before after × ((v : Version) (rows : Rows) → HoldRows v files rows → fault ≡ NotEmpty)
TellsMade path files before after _ = ⊥

module _ {D : Type 0} {g : Ghosts D} where
  -- The files, which held this, were opened, checked and closed: a work was done, or it was refused for this fault.
  pub record WereJudged (files : Image) (Worked : Type 0) (Refused : AdoptFault → Type 0) (left : Leftover D g) : Type 0 where
    -- the connection, as it was opened
    pub opened : Held (FileStore D g)
    -- it showed the rows that the files held, in whichever version
    pub shows : (v : Version) (rows : Rows) → HoldRows v files rows → ShowsIn v (state over_files opened) rows
    -- The work was done on sound tables; or the fault is the first cause that was found, or that memory or the database failed, and the files
    -- hold what they held, in whichever version.
    pub judged : (HasSoundTables (state over_files opened) × Worked)
        ⊎ ((fault : AdoptFault) × HasCause Second (state over_files opened) fault × Refused fault
        × ((v : Version) (rows : Rows) → HoldRows v files rows → Leaves left (IsImageIn v rows)))

  -- the rows of a docket's tables stay, whichever they are
  abbrev pub RowsStay : Image → Leftover D g → Type 0
  RowsStay files left = (rows : Rows) → HoldRows Second files rows → LeavesRows left rows rows

  -- a question was answered
  abbrev pub WereAsked : {T : Type 0} → Image → T × Leftover D g → Type 0
  WereAsked files found = IsCleanLeft found.1 → WereJudged files (RowsStay files found.1) (λ fault. ⊥) found.1

  -- what became of the files of a job, unless the disk was not honest; where it opened none it failed
  module _ (path : List ℕ) (files : Image) (before after : Option (List ℕ)) (end : JobEnd D g) where
    -- where it asks a question
    abbrev pub SparesAsked : Type 0
    SparesAsked = FailsOr end (λ left. WereJudged files (RowsStay files left) (FailsBy path end.status before after) left)

    -- where it runs commands or serves, and this holds of what went out if nothing did
    abbrev pub SparesRun : Type 0 → Type 0
    SparesRun Unwritten = FailsOr end (WereJudged files (Unit {0}) (λ fault. FailsBy path end.status before after fault × Unwritten))

    -- where it shows an entry, or enters it
    abbrev pub SparesEntry : Bool → Type 0 → Type 0
    SparesEntry true Unwritten = SparesAsked
    SparesEntry false Unwritten = SparesRun Unwritten

    -- where it gives a command: it is written whole, with its receipt, or not at all, and its answer is printed
    abbrev pub IsWhole : Command → Leftover D g → Type 0
    IsWhole c left =
        WereJudged files ((answer : Result Reply Fault) × IsWrittenOn files left c answer × TellsApplied answer (cow_str_bytes end.text) end.status)
        (λ fault. FailsBy path end.status before after fault × (cow_str_bytes end.text ≡ [])) left

    -- the same holds for the command that enters the days of the input's table, as far as its bytes are known
    abbrev pub SparesImport : List ℕ → Option (List ℕ) → Type 0
    SparesImport key input =
        IfSome end.left (λ left. IsCleanLeft left → (command : Command)
        × IfSome input (λ bytes. (days : List NewDay) × IsTable bytes days × (command ≡ import_command key days)) × IsWhole command left)

  -- sound tables of the first version were moved, and the standard error is as it was; or it says by which fault the job failed, and what is
  -- left is as of that
  abbrev pub Moves : List ℕ → Image → Option (List ℕ) → Option (List ℕ) → Leftover D g → Status → Type 0
  Moves path files before after left Done = (after ≡ before) × IsMigrated files left (Ok tt)
  Moves path files before after left Failed = (fault : MigrateFault) × SaysFault (unmigrated_at path fault) before after × IsMigrated files left (Err fault)
  Moves path files before after left _ = ⊥

  -- What becomes of the files of a job, which held this, by its input, by what went out and by what the standard error was before and after.
  -- `Does` covers what is left of a new docket.
  abbrev pub Spares : Job → Image → Option (List ℕ) → Type 0 → Option (List ℕ) → Option (List ℕ) → JobEnd D g → Type 0
  Spares (job.CourtCalendar file from to) files input unwritten = SparesAsked file.now files
  Spares (job.Rules (Some file)) files input unwritten = SparesAsked file.now files
  Spares (job.Case file number) files input unwritten = SparesAsked file.now files
  Spares (job.Cases file label party) files input unwritten = SparesAsked file.now files
  Spares (job.Find file words) files input unwritten = SparesAsked file.now files
  Spares (job.Calendar file from to long) files input unwritten = SparesAsked file.now files
  Spares (job.CalendarOf file due long) files input unwritten = SparesAsked file.now files
  Spares (job.Explain file case deadline) files input unwritten = SparesAsked file.now files
  Spares (job.Export file from to form) files input unwritten = SparesAsked file.now files
  Spares (job.Sheet file number) files input unwritten = SparesAsked file.now files
  Spares (job.Check file) files input unwritten = SparesAsked file.now files
  Spares (job.Backup file to) files input unwritten = SparesAsked file.now files
  Spares (job.Run file) files input unwritten = λ before after end. SparesRun file.now files before after end unwritten
  Spares (job.Enter file key show kind given) files input unwritten = λ before after end. SparesEntry file.now files before after end show unwritten
  Spares (job.Serve file place count pages guard origin) files input unwritten = λ before after end. SparesRun file.now files before after end unwritten
  Spares (job.Import file key) files input unwritten = λ before after end. SparesImport file.now files before after end key.now input
  Spares (job.Create file court) files input unwritten = λ before after end.
      IfUnopened end (SaysUnopened file.now before after) × FailsOr end (λ left. TellsMade file.now files before after end.status)
  Spares (job.Migrate file) files input unwritten = λ before after end.
      IfUnopened end (SaysUnopened file.now before after) × FailsOr end (λ left. Moves file.now files before after left end.status)
  Spares _ files input unwritten = λ before after end. Unit {0}
