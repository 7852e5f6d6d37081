-- What becomes of a command that a person gives in words, and how that is reported.
use Rattle.std.specs.Prelude.{◌≡◌, ◌⊎◌, ℕ, List, [], Option, Result, Ok, Err, string_bytes}
use Rattle.std.specs.Borrow.{Bor}
use Rattle.docket_applying.specs.CourtDockets.{CourtDocket as Docket}
use Rattle.docket_applying.specs.declared.fault.Fault.{Fault}
use Rattle.docket_command.specs.declared.command_name.CommandName.{CommandName}
use Rattle.docket_questions.specs.declared.prospect.Foreseen.TheVariants.{Refused, Known, Accepted}
use Rattle.command_forms.specs.declared.given.FieldText.{FieldText}
use Rattle.command_lines.specs.declared.fault.RunFault.{RunFault}
use Rattle.entry_lines.specs.Preparing.{IsPrepared}
use Rattle.entry_lines.specs.declared.entry.Entry.{Entry}
use Rattle.entry_lines.specs.declared.entry.Prepared.{Prepared}
use Rattle.entry_lines.specs.declared.entry.Prepared.TheVariants.{Unnamed, Line}
use Rattle.entry_lines.specs.declared.entry.Would.TheVariants.{Faulty, Does}
use Rattle.file_changes.specs.declared.entering.Entered.{Entered}
use Rattle.job_ends.specs.Ends.{TellsNothing}
use Rattle.job_ends.specs.declared.status.Status.{Status}
use Rattle.job_ends.specs.declared.status.Status.TheVariants.{Done, SomeBad, Failed}
use Rattle.job_runs.specs.Runs.{TellsEnd}

-- the entry of these words, at some instant
abbrev pub IsEntry : CommandName → Option (Bor (List ℕ)) → List FieldText → Entry → Type 0
IsEntry kind key given entry = (entry.kind ≡ kind) × (entry.key ≡ key) × (entry.given.now ≡ given)

-- the status of an entry is that of the run over its line, but a name that fits none or several is bad
abbrev pub entry_status : Prepared → Status → Status
entry_status (Unnamed why) Done = SomeBad
entry_status (Unnamed why) ran = ran
entry_status (Line line would) ran = ran

-- the end of the run over its line is reported; or memory ran out for the sentence that says what became of it
abbrev pub TellsEntered : Entered → Option (List ℕ) → Option (List ℕ) → Status → Type 0
TellsEntered it before after status =
    ((ran : Status) × TellsEnd it.end before after ran × (status ≡ entry_status it.prepared ran)) ⊎ ((status ≡ Failed) × (after ≡ before))

-- where the docket could not be asked, a last line says why
abbrev pub TellsEntry : Result Entered Fault → Option (List ℕ) → Option (List ℕ) → Status → Type 0
TellsEntry (Ok it) before after status = TellsEntered it before after status
TellsEntry (Err fault) before after status = (cause : RunFault) × TellsEnd (Err cause) before after status

-- what is shown of a prepared entry: the text of what it would do, if it would be accepted
abbrev pub shown_text : Prepared → List ℕ
shown_text (Unnamed why) = []
shown_text (Line line (Faulty fault)) = []
shown_text (Line line (Does (Refused r))) = []
shown_text (Line line (Does (Known reply))) = []
shown_text (Line line (Does (Accepted text))) = string_bytes text

-- the status says whether it would be accepted, or was entered before
abbrev pub shown_status : Prepared → Status
shown_status (Unnamed why) = SomeBad
shown_status (Line line (Faulty fault)) = SomeBad
shown_status (Line line (Does (Refused r))) = SomeBad
shown_status (Line line (Does (Known reply))) = Done
shown_status (Line line (Does (Accepted text))) = Done

-- what a prepared entry would do is printed; or the job failed
abbrev pub ShowsPrepared : Prepared → List ℕ → Status → Type 0
ShowsPrepared prepared text status = ((text ≡ shown_text prepared) × (status ≡ shown_status prepared)) ⊎ TellsNothing text status

-- the entry was prepared by the docket, and that is printed; or the docket could not be asked
abbrev pub ShowsEntry : Docket → Entry → List ℕ → Status → Type 0
ShowsEntry docket entry text status =
    ((prepared : Prepared) × IsPrepared docket.court docket.history entry prepared × ShowsPrepared prepared text status) ⊎ TellsNothing text status
