-- How an entry is reported, and what it leaves.
use Rattle.std.proofs.Common.{◌≡◌, ◌∙◌, ◌⊎◌, inl, inr, ℕ, List, [], Option, Result, Ok, Err, refl, sym, ap, subst}
use Rattle.docket_tables.specs.Layouts.{Rows}
use Rattle.docket_applying.specs.CourtDockets.{CourtDocket as Docket}
use Rattle.docket_applying.specs.declared.fault.Fault.{Fault}
use Rattle.docket_applying.specs.declared.fault.Fault.TheVariants.{Refused, NoMemory, StoreFailed, Closed, Damaged}
use Rattle.command_lines.specs.declared.fault.RunFault.{RunFault}
use Rattle.entry_lines.specs.declared.entry.Entry.{Entry}
use Rattle.entry_lines.specs.declared.entry.Prepared.{Prepared}
use Rattle.entry_lines.specs.declared.entry.Prepared.TheVariants.{Unnamed, Line}
use Rattle.file_changes.specs.Entering.{Enters as Becomes, line_prepared}
use Rattle.file_changes.specs.Runs.{LeavesPrefix}
use Rattle.file_changes.specs.declared.entering.Entered.{Entered}
use Rattle.file_dockets.specs.Keeping.{Keeps, rows_told}
use Rattle.line_io.specs.declared.ending.CountEnd.{CountEnd}
use Rattle.job_ends.specs.declared.status.Status.{Status}
use Rattle.job_ends.specs.declared.status.Status.TheVariants.{Failed}
use Rattle.job_runs.specs.Entering.{TellsEntered, TellsEntry, entry_status}
use Rattle.job_runs.specs.Jobs.{Enters}
use Rattle.job_runs.specs.Runs.{TellsEnd}
use Rattle.file_changes.proofs.RunLemmas.{prefix_none}
use Rattle.job_runs.proofs.RunLemmas.{told_end, untold}

-- an entry whose run failed has failed
failed_entry : (prepared : Prepared) (ran : Status) → ran ≡ Failed → ran ≡ entry_status prepared ran
failed_entry (Unnamed why) ran is = is ∙ ap (entry_status (Unnamed why)) (sym is)
failed_entry (Line line would) ran is = refl

module _ (it : Entered) (before after : Option (List ℕ)) where
  -- the run over the line of an entry was answered whole, and a sentence says what became of it
  pub told_entered : (end : CountEnd) (ran status told : Status) → it.end ≡ Ok end → TellsEnd (Ok end) before after ran → status ≡ entry_status it.prepared ran
      → (told ≡ status) ⊎ (told ≡ Failed) → TellsEntered it before after told
  told_entered end ran status told is tells by (inl same) = inl (ran, subst (λ (e : Result CountEnd RunFault). TellsEnd e before after ran) (sym is) tells, same ∙ by)
  told_entered end ran status told is tells by (inr failed) = inr (failed, tells.0)

  -- or it ended early
  pub told_early : (fault : RunFault) (status : Status) → it.end ≡ Err fault → TellsEnd (Err fault) before after status → TellsEntered it before after status
  told_early fault status is tells =
      inl (status, subst (λ (e : Result CountEnd RunFault). TellsEnd e before after status) (sym is) tells, failed_entry it.prepared status tells.0)

module _ (Left : Rows → Rows → Type 0) (docket : Docket) (entry : Entry) (before : Option (List ℕ)) where
  -- the docket was not asked, and nothing went out before the last line
  told_unasked : (mid after : Option (List ℕ)) (cause : RunFault) (status : Status) → mid ≡ before → Keeps Left docket → TellsEnd (Err cause) mid after status
      → Enters Left docket entry before after status
  told_unasked mid after cause status same keeps tells = inr (tells.0, (mid, prefix_none Left docket [] before mid keeps.1 same, cause, tells.1))

  -- what became of an entry is reported
  pub told_entry : (mid after : Option (List ℕ)) (became : Result Entered Fault) (status : Status) → Becomes Left docket entry before mid became → TellsEntry became mid after status
      → Enters Left docket entry before after status
  told_entry mid after (Ok it) status is (inl tells) =
      inl (it.prepared, is.prepared, (tells.0, told_end Left docket (line_prepared it.prepared) before mid after it.end tells.0 is.answers is.prefix tells.1, tells.2))
  told_entry mid after (Ok it) status is (inr short) =
      let prefix = subst (LeavesPrefix Left docket (line_prepared it.prepared) before) (sym short.1) is.prefix in
      inl (it.prepared, is.prepared, (status, untold Left docket (line_prepared it.prepared) before after status prefix short.0, failed_entry it.prepared status short.0))
  told_entry mid after (Err (Refused r)) status is tells = absurd is
  told_entry mid after (Err NoMemory) status is tells = told_unasked mid after tells.0 status is.0 is.1 tells.1
  told_entry mid after (Err StoreFailed) status is tells = told_unasked mid after tells.0 status is.0 is.1 tells.1
  told_entry mid after (Err Closed) status is tells = absurd is
  told_entry mid after (Err Damaged) status is tells = absurd is

  -- the docket was not adopted
  pub unentered : (after : Option (List ℕ)) (status : Status) → status ≡ Failed → after ≡ before → Left (rows_told docket) (rows_told docket)
      → Enters Left docket entry before after status
  unentered after status failed same left = inr (failed, untold Left docket [] before after Failed (prefix_none Left docket [] before after left same) refl)
