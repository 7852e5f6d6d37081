-- The outcome of each work over a connection: by what it held, `old`, and as it comes back, `new`.
use Rattle.std.specs.Prelude.{◌≡◌, ℕ, false, List, [], Option, Result, Ok, Err, IfErr, IfOk, IfSome, IsErrAnd, IsTrue, MatchResult, OnOk}
use Rattle.sqlite.specs.Held.{Held, state}
use Rattle.sqlite.specs.State.{HasCleanDisk}
use Rattle.sqlite.specs.Store.{Ghosts}
use Rattle.sqlite.specs.declared.error.Error.{Error}
use Rattle.court_days.specs.Court.{CourtSettings}
use Rattle.docket_columns.specs.declared.version.Version.TheVariants.{First}
use Rattle.docket_command.specs.declared.command.Command.{Command}
use Rattle.docket_command.specs.declared.refusal.Reply.{Reply}
use Rattle.docket_migration.specs.Migrating.{Tells}
use Rattle.docket_scan.specs.Dockets.{MayHold}
use Rattle.docket_scan.specs.declared.fault.AdoptFault.{AdoptFault}
use Rattle.docket_tables.specs.Recognition.{has_docket_table}
use Rattle.docket_tables.specs.Stands.{HoldsRows, HoldsRowsIn}
use Rattle.docket_applying.specs.Applying.{IsDocket, StandsFor, docket_rows}
use Rattle.docket_applying.specs.CourtDockets.{CourtDocket as Docket}
use Rattle.docket_applying.specs.declared.fault.Fault.{Fault}
use Rattle.docket_store.specs.Migrating.{cause_of, first_rows}
use Rattle.docket_store.specs.Opening.{IsNotMade}
use Rattle.docket_store.specs.declared.creating.CreateFault.{CreateFault}
use Rattle.docket_store.specs.declared.creating.CreateFault.TheVariants.{NotEmpty}
use Rattle.docket_store.specs.declared.migrating.MigrateFault.{MigrateFault}
use Rattle.line_io.specs.declared.ending.CountEnd.{CountEnd}
use Rattle.command_lines.specs.declared.fault.RunFault.{RunFault}
use Rattle.file_dockets.specs.Adopting.{AdoptsOver}
use Rattle.file_dockets.specs.Keeping.{HoldsBetween, rows_told}
use Rattle.file_dockets.specs.Works.{WorksTo}
use Rattle.file_changes.specs.Commands.{AppliesTo, IsWritten}
use Rattle.file_changes.specs.Migrates.{StaysIn}
use Rattle.file_changes.specs.Runs.{LeavesPrefix, RunsTo}

module _ {S : Type 0} (g : Ghosts S) (old new : Held S) where
  -- a command to the docket that the connection held
  pub record AppliesOver (c : Command) (failure : Option Error) (outcome : Result (Result Reply Fault) AdoptFault) : Type 0 where
    pub adopts : AdoptsOver g old new failure outcome
    pub applies : (told : Docket) → IsDocket told.court told.history → StandsFor g old told.court told.history → HasCleanDisk (state g new)
        → WorksTo (AppliesTo (HoldsBetween g new) told c) outcome
    pub stays : (told : Docket) → IsDocket told.court told.history → StandsFor g old told.court told.history
        → IfErr outcome (λ _. HoldsBetween g new (rows_told told) (rows_told told))
    -- of any sound tables
    pub whole : HasCleanDisk (state g new) → IfOk outcome (IsWritten (state g old) (HoldsRows g old) (HoldsBetween g new) c)

  -- the lines of an input, as far as its bytes are known
  pub record RunsOver (known before after : Option (List ℕ)) (failure : Option Error) (outcome : Result (Result CountEnd RunFault) AdoptFault) : Type 0 where
    pub adopts : AdoptsOver g old new failure outcome
    pub runs : (told : Docket) → IsDocket told.court told.history → StandsFor g old told.court told.history → HasCleanDisk (state g new)
        → IfSome known (λ input. RunsTo (HoldsBetween g new) told input before after outcome)
    pub prefix : (told : Docket) → IsDocket told.court told.history → StandsFor g old told.court told.history → HasCleanDisk (state g new)
        → IfSome known (λ input. LeavesPrefix (HoldsBetween g new) told input before after)

  -- a new docket, or what is left where none was made
  pub record CreatesOver (court : CourtSettings) (outcome : Result (Unit {0}) CreateFault) : Type 0 where
    pub made : OnOk outcome (IsDocket court [] × HoldsBetween g new (docket_rows court []) (docket_rows court []))
    -- one is made only where no table of a docket is
    pub empty : OnOk outcome (has_docket_table old.schema ≡ false)
    pub full : IsTrue (has_docket_table old.schema) → IsErrAnd outcome (λ fault. fault ≡ NotEmpty)
    pub not_made : IfErr outcome (IsNotMade g old new court)
    -- a disk that is honest then was honest before
    pub trust : HasCleanDisk (state g new) → HasCleanDisk (state g old)

  -- a docket in the first version of the tables
  pub record MigratesOver (outcome : Result (Unit {0}) MigrateFault) : Type 0 where
    pub migrated : (told : Docket) → IsDocket told.court told.history → MayHold First told.history → HoldsRowsIn g First old (first_rows told.court told.history)
        → OnOk outcome (HoldsBetween g new (rows_told told) (rows_told told))
    pub stays : (told : Docket) → IsDocket told.court told.history → MayHold First told.history → HoldsRowsIn g First old (first_rows told.court told.history)
        → IfErr outcome (StaysIn g new told)
    -- any database
    pub tells : MatchResult outcome (λ done. Tells g old new (Ok done)) (λ fault. Tells g old new (Err (cause_of fault)))
    pub trust : HasCleanDisk (state g new) → HasCleanDisk (state g old)
