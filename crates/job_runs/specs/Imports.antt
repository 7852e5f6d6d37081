-- How the answer to a command is printed, and why a text is no table of days.
use Rattle.std.specs.Prelude.{◌≡◌, ◌⊎◌, ℕ, List, [], ◌∷◌, ◌++◌, Option, Result, Ok, Err, IfSome, IsOk, IsErr, codes}
use Rattle.std.specs.Io.KnownBytes.{Appends}
use Rattle.day_tables.specs.CalendarCsv.{HasFault, fault_text}
use Rattle.day_tables.specs.declared.csv_fault.CsvFault.{CsvFault}
use Rattle.docket_command.specs.declared.refusal.Refusal.{Refusal}
use Rattle.docket_command.specs.declared.refusal.Reply.{Reply}
use Rattle.docket_wire.specs.Texts.{reply_text}
use Rattle.docket_applying.specs.declared.fault.Fault.{Fault}
use Rattle.docket_applying.specs.declared.fault.Fault.TheVariants.{Refused}
use Rattle.line_io.specs.Output.{AppendsFront}
use Rattle.job_ends.specs.declared.status.Status.{Status}
use Rattle.job_ends.specs.declared.status.Status.TheVariants.{Done, SomeBad, BadLine, Failed}

-- the line of an answer, or nothing where memory ran out
abbrev pub TellsAnswer : Result Reply Refusal → List ℕ → Status → Type 0
TellsAnswer answer text Done = IsOk answer × (text ≡ reply_text answer ++ 10 ∷ [])
TellsAnswer answer text SomeBad = IsErr answer × (text ≡ reply_text answer ++ 10 ∷ [])
TellsAnswer answer text BadLine = ⊥
TellsAnswer answer text Failed = text ≡ []

-- the same for a command: a fault other than a refusal is no answer
abbrev pub TellsApplied : Result Reply Fault → List ℕ → Status → Type 0
TellsApplied (Ok reply) text status = TellsAnswer (Ok reply) text status
TellsApplied (Err (Refused r)) text status = TellsAnswer (Err r) text status
TellsApplied (Err _) text status = (status ≡ Failed) × (text ≡ [])

-- the line of a fault
abbrev pub fault_line : CsvFault → List ℕ
fault_line fault = fault_text fault ++ codes "\n"

-- an input, as far as its bytes are known, is no table for this reason
abbrev pub IsNoTable : Option (List ℕ) → CsvFault → Type 0
IsNoTable input fault = IfSome input (λ bytes. HasFault bytes fault)

-- The input is no table, and the line of its fault went out, with nothing else; or the job failed, and nothing went out, or a prefix of that line.
abbrev pub TellsFault : Option (List ℕ) → Option (List ℕ) → Option (List ℕ) → Status → Type 0
TellsFault input before after Done = ⊥
TellsFault input before after SomeBad = (fault : CsvFault) × IsNoTable input fault × Appends before after (fault_line fault)
TellsFault input before after BadLine = ⊥
TellsFault input before after Failed = (after ≡ before) ⊎ ((fault : CsvFault) × IsNoTable input fault × AppendsFront before after (fault_line fault))
