-- How a job ends, and what it still prints.
use Rattle.std.specs.Prelude.{◌≡◌, ◌⊎◌, ℕ, List, [], ◌++◌, Option, Some, IfSome, codes}
use Rattle.std.specs.Fmt.{◌++?◌, debug_str}
use Rattle.std.specs.Io.KnownBytes.{Appends}
use Rattle.docket_scan.specs.declared.fault.AdoptFault.{AdoptFault}
use Rattle.docket_scan.specs.declared.fault.AdoptFault.TheVariants as adopt
use Rattle.docket_store.specs.declared.creating.CreateFault.{CreateFault}
use Rattle.docket_store.specs.declared.creating.CreateFault.TheVariants as create
use Rattle.docket_store.specs.declared.migrating.MigrateFault.{MigrateFault}
use Rattle.docket_store.specs.declared.migrating.MigrateFault.TheVariants as migrate
use Rattle.docket_tables.specs.Tables.{layout_of}
use Rattle.docket_tables.specs.declared.table.Table.{Table}
use Rattle.line_io.specs.Output.{AppendsFront}
use Rattle.job_ends.specs.declared.file.FileFault.{FileFault}
use Rattle.job_ends.specs.declared.file.FileFault.TheVariants as file
use Rattle.job_ends.specs.declared.status.Status.{Status}
use Rattle.job_ends.specs.declared.status.Status.TheVariants.{Done, SomeBad, BadLine, Failed}

-- the text went out, and the job ends so; or a prefix of it did, and the job failed
abbrev pub Writes : List ℕ → Status → Option (List ℕ) → Option (List ℕ) → Status → Type 0
Writes text status before after result =
    ((result ≡ status) × Appends before after text) ⊎ ((result ≡ Failed) × AppendsFront before after text)

-- the exit status of the program
abbrev pub exit_code : Status → ℕ
exit_code Done = 0
exit_code SomeBad = 1
exit_code BadLine = 2
exit_code Failed = 3

-- the same for the whole program, which ends by its exit status
abbrev pub Exits : List ℕ → Status → Option (List ℕ) → Option (List ℕ) → ℕ → Type 0
Exits text status before after code = (ended : Status) × Writes text status before after ended × (code ≡ exit_code ended)

-- nothing is left to print, since the job failed
abbrev pub TellsNothing : List ℕ → Status → Type 0
TellsNothing text status = (status ≡ Failed) × (text ≡ [])

-- the last line of an output whose job ran out of memory
abbrev pub no_memory_line : List ℕ
no_memory_line = codes "{\"error\":\"no-memory\"}\n"

-- the line on the standard error that says why a job failed, by the error's text, where the kit specifies that
abbrev pub error_line : Option (List ℕ) → Option (List ℕ)
error_line shown = Some (codes "docketctl: ") ++? shown ++? Some (codes "\n")

abbrev pub no_memory_error : List ℕ
no_memory_error = codes "docketctl: there is not enough memory\n"

-- that line went out, or where memory ran out the line for that; or a prefix of it, if not all could be written
abbrev pub SaysFault : Option (List ℕ) → Option (List ℕ) → Option (List ℕ) → Type 0
SaysFault shown before after = IfSome (error_line shown) (λ line. AppendsFront before after line ⊎ AppendsFront before after no_memory_error)

-- a fault of the file at a path
abbrev pub shown_at : List ℕ → Option (List ℕ) → Option (List ℕ)
shown_at path fault = debug_str path ++? Some (codes ": ") ++? fault

-- a table that is not sound
abbrev pub unsound_text : Table → List ℕ
unsound_text table = codes "the table " ++ ((layout_of table).name ++ codes " is not sound")

-- why a docket was not adopted, and what is to be done about it
abbrev pub unadopted_text : AdoptFault → List ℕ
unadopted_text adopt.Empty = codes "the database holds no docket"
unadopted_text adopt.NotADocket = codes "the database is not that of a docket"
unadopted_text adopt.OtherVersion = codes "the docket is laid out in another version; `docketctl migrate` takes version 1 further"
unadopted_text (adopt.Damaged table) = unsound_text table
unadopted_text adopt.NoMemory = codes "there is not enough memory"
unadopted_text adopt.StoreFailed = codes "the database failed"

abbrev pub unadopted_at : List ℕ → AdoptFault → Option (List ℕ)
unadopted_at path fault = shown_at path (Some (unadopted_text fault))

-- why no docket was made
abbrev pub uncreated_text : CreateFault → List ℕ
uncreated_text create.NotEmpty = codes "the database holds a docket"
uncreated_text create.NoMemory = codes "there is not enough memory"
uncreated_text create.StoreFailed = codes "the docket could not be made in the database"

abbrev pub uncreated_at : List ℕ → CreateFault → Option (List ℕ)
uncreated_at path fault = shown_at path (Some (uncreated_text fault))

-- why a docket was not migrated
abbrev pub unmigrated_text : MigrateFault → List ℕ
unmigrated_text migrate.Empty = codes "the database holds no docket"
unmigrated_text migrate.NotADocket = codes "the database is not that of a docket"
unmigrated_text migrate.OtherVersion = codes "the docket is not in version 1"
unmigrated_text (migrate.Damaged table) = unsound_text table
unmigrated_text migrate.NoMemory = codes "there is not enough memory"
unmigrated_text migrate.StoreFailed = codes "the docket could not be migrated in the database"

abbrev pub unmigrated_at : List ℕ → MigrateFault → Option (List ℕ)
unmigrated_at path fault = shown_at path (Some (unmigrated_text fault))

-- why a file was not opened
abbrev pub unopened_text : FileFault → List ℕ
unopened_text file.Missing = codes "there is no such file"
unopened_text file.NotAFile = codes "it is no regular file"
unopened_text file.NotADatabase = codes "it is no database of SQLite"
unopened_text file.InUse = codes "it is in use by another process"
unopened_text file.CannotOpen = codes "it can't be opened for reading and writing"
unopened_text file.Damaged = codes "it is damaged, or no database of SQLite"
unopened_text file.Failed = codes "it could not be read or written"
unopened_text file.Full = codes "the disk is full"
unopened_text file.NoMemory = codes "there is not enough memory"

-- the file at a path was not opened, and the standard error says why
abbrev pub SaysUnopened : List ℕ → Option (List ℕ) → Option (List ℕ) → Type 0
SaysUnopened path before after = (fault : FileFault) × SaysFault (shown_at path (Some (unopened_text fault))) before after
