-- How the program ends where its words ask for no job.
use Rattle.std.specs.Prelude.{◌≡◌, ◌≢◌, ◌⊎◌, ℕ, List, Option}
use Rattle.clap.specs.declared.error.kind.ErrorKind.{ErrorKind}
use Rattle.clap.specs.declared.error.kind.ErrorKind.TheVariants.{DisplayHelp, DisplayVersion, OutOfMemory}
use Rattle.job_ends.specs.declared.status.Status.{Status}
use Rattle.job_ends.specs.declared.status.Status.TheVariants.{Done, BadLine, Failed}

-- help and the version, which the words may ask for, are no mistake
abbrev pub status_of : ErrorKind → Status
status_of DisplayHelp = Done
status_of DisplayVersion = Done
status_of OutOfMemory = Failed
status_of _ = BadLine

-- it ends with the status of its words' error, or as a job that failed; a mistake leaves the output as it was
abbrev pub ExplainsWords : ErrorKind → Option (List ℕ) → Option (List ℕ) → Status → Type 0
ExplainsWords kind before after status = ((status ≡ status_of kind) ⊎ (status ≡ Failed)) × (status_of kind ≢ Done → after ≡ before)
