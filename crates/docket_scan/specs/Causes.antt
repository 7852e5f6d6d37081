-- Why the database fails where it is read.
use Rattle.std.specs.Prelude.{◌≡◌, ◌⊎◌, IsTrue, IsSome, false}
use Rattle.sqlite.specs.Disk.{MoreFaults}
use Rattle.sqlite.specs.State.{State}
use Rattle.sqlite.specs.declared.error.Error.{Error}
use Rattle.docket_tables.specs.Causes.{IsOfMemory}
use Rattle.docket_scan.specs.Scans.{is_refusal}
use Rattle.docket_scan.specs.declared.fault.AdoptFault.{AdoptFault}
use Rattle.docket_scan.specs.declared.fault.AdoptFault.TheVariants.{StoreFailed}

-- a database failed for a cause: the disk failed or refused more often than before, a step limit was set, or the connection was shut
abbrev pub HasFailed : State → State → Type 0
HasFailed old new = MoreFaults old.faults new.faults ⊎ (IsSome old.step_limit ⊎ (old.is_open ≡ false))

-- why a table was not read to its end: memory ran out, the database refused the statement for what it says, or it failed for a cause
abbrev pub IsCausedError : State → State → Error → Type 0
IsCausedError old new e = IsOfMemory e ⊎ (IsTrue (is_refusal e) ⊎ HasFailed old new)

-- the fault is that of a database that failed only where this has a cause
abbrev pub IsCausedFault : State → State → AdoptFault → Type 0
IsCausedFault old new StoreFailed = HasFailed old new
IsCausedFault old new _ = Unit {0}
