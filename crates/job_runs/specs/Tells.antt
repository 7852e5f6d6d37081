-- What a job prints, and how it ends.
use Rattle.std.specs.Prelude.{◌≡◌, ◌≢◌, ℕ, List, [], Option, Some, None, codes}
use Rattle.std.specs.Io.KnownBytes.{Appends}
use Rattle.line_io.specs.Output.{AppendsFront, HasFront}
use Rattle.docket_history.specs.declared.row.CaseRow.{CaseRow}
use Rattle.docket_applying.specs.declared.fault.Fault.TheVariants.{Closed, Damaged}
use Rattle.command_lines.specs.declared.fault.RunFault.{RunFault}
use Rattle.command_lines.specs.declared.fault.RunFault.TheVariants as run
use Rattle.file_questions.specs.CaseLists.{case_lines}
use Rattle.job_ends.specs.Ends.{no_memory_line}
use Rattle.job_ends.specs.declared.status.Status.{Status}
use Rattle.job_ends.specs.declared.status.Status.TheVariants.{Done, SomeBad, BadLine, Failed}

-- a text is printed, or the job failed
abbrev pub TellsText : List ℕ → List ℕ → Status → Type 0
TellsText wanted text Done = text ≡ wanted
TellsText wanted text SomeBad = ⊥
TellsText wanted text BadLine = ⊥
TellsText wanted text Failed = text ≡ []

-- a text is printed if there is one, or the job failed
abbrev pub TellsIfAny : Option (List ℕ) → List ℕ → Status → Type 0
TellsIfAny found text Done = found ≡ Some text
TellsIfAny found text SomeBad = (found ≡ None) × (text ≡ [])
TellsIfAny found text BadLine = ⊥
TellsIfAny found text Failed = text ≡ []

-- a text went out during the job, and nothing is left to print; or a prefix of it did, and the job failed
abbrev pub HasTold : List ℕ → Option (List ℕ) → Option (List ℕ) → List ℕ → Status → Type 0
HasTold wanted before after text Done = Appends before after wanted × (text ≡ [])
HasTold wanted before after text SomeBad = ⊥
HasTold wanted before after text BadLine = ⊥
HasTold wanted before after text Failed = HasFront before after wanted × (text ≡ [])

-- the lines of the cases went out during the job, if there is a case; nothing did, if there is none; or a prefix of them did, and the job failed
abbrev pub HasListed : List CaseRow → Option (List ℕ) → Option (List ℕ) → List ℕ → Status → Type 0
HasListed rows before after text Done = Appends before after (case_lines rows) × (rows ≢ []) × (text ≡ [])
HasListed rows before after text SomeBad = Appends before after [] × (rows ≡ []) × (text ≡ [])
HasListed rows before after text BadLine = ⊥
HasListed rows before after text Failed = HasFront before after (case_lines rows) × (text ≡ [])

abbrev pub no_such_case : List ℕ
no_such_case = codes "no such case\n"

abbrev pub no_such_deadline : List ℕ
no_such_deadline = codes "no such deadline\n"

-- where the status says that nothing was found, this line went out on the standard error; or a prefix of it, if not all could be written
abbrev pub SaysMissing : List ℕ → Status → Option (List ℕ) → Option (List ℕ) → Type 0
SaysMissing line status before after = status ≡ SomeBad → AppendsFront before after line

-- the last line of an output whose job failed
abbrev pub last_line : RunFault → List ℕ
last_line (run.Store Closed) = codes "{\"error\":\"closed\"}\n"
last_line (run.Store Damaged) = codes "{\"error\":\"damaged\"}\n"
last_line (run.Store _) = codes "{\"error\":\"store\"}\n"
last_line run.NoMemory = no_memory_line
last_line run.ReadFailed = []
last_line run.WriteFailed = []
