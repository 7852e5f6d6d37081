-- How the end of a run over lines is reported.
use Rattle.std.specs.Prelude.{◌≡◌, ◌≢◌, ℕ, List, Option, Result, Ok, Err}
use Rattle.line_io.specs.Output.{AppendsFront}
use Rattle.line_io.specs.declared.ending.CountEnd.{CountEnd}
use Rattle.command_lines.specs.declared.fault.RunFault.{RunFault}
use Rattle.job_runs.specs.Tells.{last_line}
use Rattle.job_ends.specs.declared.status.Status.{Status}
use Rattle.job_ends.specs.declared.status.Status.TheVariants.{Done, SomeBad, Failed}

-- the status says whether an answer was a refusal or a fault; where it stopped early a last line says why
abbrev pub TellsEnd : Result CountEnd RunFault → Option (List ℕ) → Option (List ℕ) → Status → Type 0
TellsEnd (Ok end) before after status = (after ≡ before) × (end.bad ≡ 0 → status ≡ Done) × (end.bad ≢ 0 → status ≡ SomeBad)
TellsEnd (Err fault) before after status = (status ≡ Failed) × AppendsFront before after (last_line fault)
