-- How the import of a table is reported.
use Rattle.std.proofs.Common.{◌≡◌, List, [], ℕ, Option, Some, None, IfSome, MatchOption, inl, inr, sym, subst}
use Rattle.std.specs.Io.KnownBytes.{Appends}
use Rattle.docket_command.specs.declared.command.Command.{Command}
use Rattle.docket_command.specs.declared.new_day.NewDay.{NewDay}
use Rattle.day_tables.specs.CalendarCsv.{IsTable}
use Rattle.day_tables.specs.declared.csv_fault.CsvFault.{CsvFault}
use Rattle.line_io.specs.Output.{AppendsFront}
use Rattle.job_ends.specs.Ends.{TellsNothing, Writes}
use Rattle.job_runs.specs.Imports.{IsNoTable, TellsFault, fault_line}
use Rattle.job_runs.specs.Jobs.{import_command}
use Rattle.job_ends.specs.declared.status.Status.{Status}
use Rattle.job_ends.specs.declared.status.Status.TheVariants.{SomeBad, Failed}

-- the days of the table were entered by their command, or the job failed
pub entered : {L : Type 0} (o : Option L) (Clean : L → Type 0) (A : L → Command → Type 0) (N : Type 0) (command : Command) (input key : List ℕ)
    → (days : List NewDay) × IsTable input days × (command ≡ import_command key days) → MatchOption o N (λ left. Clean left → A left command)
    → IfSome o (λ left. Clean left → (days : List NewDay) × IsTable input days × A left (import_command key days))
entered None Clean A N command input key read none = tt
entered (Some left) Clean A N command input key read applied = λ clean. (read.0, read.1, subst (A left) read.2 (applied clean))

-- and whatever the files held, this holds of that command
pub spared_import : {L : Type 0} (o : Option L) (Clean : L → Type 0) (A : L → Command → Type 0) (N : Type 0) (command : Command) (Read : Command → Type 0)
    → Read command → MatchOption o N (λ left. Clean left → A left command) → IfSome o (λ left. Clean left → (c : Command) × Read c × A left c)
spared_import None Clean A N command Read read is = tt
spared_import (Some left) Clean A N command Read read is = λ clean. (command, read, is clean)

-- no files were opened, so nothing was entered
pub unentered : {L : Type 0} (o : Option L) (P : L → Type 0) → o ≡ None → IfSome o P
unentered o P none = subst (λ o. IfSome o P) (sym none) tt

module _ (input before after : Option (List ℕ)) where
  -- the job failed before anything went out
  pub failed_silently : (status : Status) → status ≡ Failed → after ≡ before → TellsFault input before after status
  failed_silently status failed same = subst (TellsFault input before after) (sym failed) (inl same)

  -- the line of the fault was written
  pub fault_told : (fault : CsvFault) (text : List ℕ) (status : Status) → IsNoTable input fault → text ≡ fault_line fault → Writes text SomeBad before after status
      → TellsFault input before after status
  fault_told fault text status is line (inl whole) = subst (TellsFault input before after) (sym whole.0) (fault, is, subst (Appends before after) line whole.1)
  fault_told fault text status is line (inr front) = subst (TellsFault input before after) (sym front.0) (inr (fault, is, subst (AppendsFront before after) line front.1))

  -- nothing went out before the files were closed, or none were opened
  pub answers_last : {L : Type 0} (o : Option L) (text : List ℕ) (status : Status) → after ≡ before → MatchOption o (TellsNothing text status) (λ _. Unit {0})
      → MatchOption o (TellsFault input before after status × (text ≡ [])) (λ _. after ≡ before)
  answers_last None text status same none = (failed_silently status none.0 same, none.1)
  answers_last (Some left) text status same none = same

  -- no files were opened, since the input is no table
  pub refused : {L : Type 0} (o : Option L) (text : List ℕ) (status told : Status) → o ≡ None → text ≡ [] → status ≡ told → TellsFault input before after told
      → MatchOption o (TellsFault input before after status × (text ≡ [])) (λ _. after ≡ before)
  refused o text status told none empty same is =
      subst (λ o. MatchOption o (TellsFault input before after status × (text ≡ [])) (λ _. after ≡ before)) (sym none)
      (subst (TellsFault input before after) (sym same) is, empty)
