-- Why no docket was opened or made, and why commands in order stopped.
use Rattle.std.specs.Prelude.{◌≡◌, ◌≢◌, ◌⊎◌, ℕ, IsTrue, List, Option, Some, IfSome, None, slice_get}
use Rattle.sqlite.specs.State.{State}
use Rattle.sqlite.specs.declared.error.Error.{Error}
use Rattle.docket_command.specs.declared.command.Command.{Command}
use Rattle.docket_scan.specs.Causes.{HasFailed}
use Rattle.docket_scan.specs.declared.fault.AdoptFault.{AdoptFault}
use Rattle.docket_scan.specs.declared.fault.AdoptFault.TheVariants as adopt
use Rattle.docket_tables.specs.Causes.{IsCausedMaking, IsOfMemory}
use Rattle.docket_tables.specs.Schema.{no_schema}
use Rattle.docket_tables.specs.declared.fault.StoreFault.TheVariants as making
use Rattle.docket_store.specs.declared.creating.CreateFault.{CreateFault}
use Rattle.docket_store.specs.declared.creating.CreateFault.TheVariants as create
use Rattle.docket_applying.specs.declared.fault.Fault.{Fault}
use Rattle.docket_applying.specs.declared.fault.Fault.TheVariants.{StoreFailed}
use Rattle.docket_applying.specs.Causes.{IsCausedWrite}

-- the reported failure is an out-of-memory error
abbrev pub IsShort : Option Error → Type 0
IsShort failure = (e : Error) × (failure ≡ Some e) × IsOfMemory e

-- a database failed while a docket was opened on it: for a cause, because a transaction was open on it, or out of memory
abbrev pub IsCausedOpening : State → State → Option Error → AdoptFault → Type 0
IsCausedOpening old new failure adopt.StoreFailed = HasFailed old new ⊎ (IsTrue old.in_transaction ⊎ IsShort failure)
IsCausedOpening old new failure _ = Unit {0}

-- no docket was made: the database failed for a cause, and its error is reported; or nothing failed, but a transaction was open on it
-- or it held something. Out of memory is reported too
abbrev pub IsCausedCreating : State → State → Option Error → CreateFault → Type 0
IsCausedCreating old new failure create.NotEmpty = failure ≡ None
IsCausedCreating old new failure create.NoMemory = IsCausedMaking old new failure making.NoMemory
IsCausedCreating old new failure create.StoreFailed =
    IsCausedMaking old new failure making.StoreFailed ⊎ ((failure ≡ None) × (IsTrue old.in_transaction ⊎ (old.now.schema ≢ no_schema)))

-- the database failed at the command at this place, and the reported error has a cause since the first command
abbrev pub IsCausedAt : List Command → State → State → Option Error → ℕ → Type 0
IsCausedAt cs old new failure place = (c : Command) × (slice_get cs place ≡ Some c) × IsCausedWrite c old new failure StoreFailed

-- if commands in order stopped because the database failed, it failed for such a cause
abbrev pub StopsForCause : List Command → State → State → Option Error → Option (ℕ × Fault) → Type 0
StopsForCause cs old new failure stop = IfSome stop (λ at. at.1 ≡ StoreFailed → IsCausedAt cs old new failure at.0)

-- the database did not fail as commands in order were answered, up to the end or to a command that stopped them for another reason
abbrev pub IsUnfailed : Option (ℕ × Fault) → Type 0
IsUnfailed stop = IfSome stop (λ at. at.1 ≢ StoreFailed)
