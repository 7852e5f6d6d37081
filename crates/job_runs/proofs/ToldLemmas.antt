-- What a job that makes or migrates a docket prints on the standard error.
use Rattle.std.proofs.Common.{◌≡◌, ℕ, List, Option, Result, Ok, Err, IfErr, IsErr, subst, sym}
use Rattle.std.proofs.lemmas.Bool.{false≢true}
use Rattle.sqlite_disk.specs.declared.Disk.{Ghosts}
use Rattle.sqlite_wal.specs.Recovery.{Image}
use Rattle.sqlite.specs.declared.file.Leftover.{Leftover}
use Rattle.docket_columns.specs.declared.version.Version.{Version}
use Rattle.docket_store.specs.Reopening.{HoldRows}
use Rattle.docket_store.specs.declared.creating.CreateFault.{CreateFault}
use Rattle.docket_store.specs.declared.creating.CreateFault.TheVariants.{NotEmpty}
use Rattle.docket_store.specs.declared.migrating.MigrateFault.{MigrateFault}
use Rattle.docket_tables.specs.Layouts.{Rows}
use Rattle.file_changes.specs.Migrates.{IsMigrated}
use Rattle.job_ends.specs.Ends.{SaysFault, uncreated_at, unmigrated_at}
use Rattle.job_ends.specs.declared.status.Status.{Status}
use Rattle.job_ends.specs.declared.status.Status.TheVariants.{Failed}
use Rattle.job_runs.specs.Spares.{Moves, TellsMade}

-- no docket was made
pub unmade_told : (path : List ℕ) (files : Image) (before after : Option (List ℕ)) (status : Status) (outcome : Result (Unit {0}) CreateFault) → status ≡ Failed
    → IfErr outcome (λ fault. SaysFault (uncreated_at path fault) before after) → ((v : Version) (rows : Rows) → HoldRows v files rows → outcome ≡ Err NotEmpty) → IsErr outcome
    → TellsMade path files before after status
unmade_told path files before after status (Ok done) failed said full is = absurd (false≢true is)
unmade_told path files before after status (Err fault) failed said full is =
    subst (TellsMade path files before after) (sym failed) (fault, said, λ v rows held. (let same = full v rows held in cc))

-- none was migrated
pub unmoved_told : {D : Type 0} {g : Ghosts D} (path : List ℕ) (files : Image) (before after : Option (List ℕ)) (left : Leftover D g) (status : Status)
    (outcome : Result (Unit {0}) MigrateFault) → status ≡ Failed → IfErr outcome (λ fault. SaysFault (unmigrated_at path fault) before after) → IsMigrated files left outcome → IsErr outcome
    → Moves path files before after left status
unmoved_told path files before after left status (Ok done) failed said migrated is = absurd (false≢true is)
unmoved_told path files before after left status (Err fault) failed said migrated is = subst (Moves path files before after left) (sym failed) (fault, said, migrated)
