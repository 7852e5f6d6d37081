-- A failure of a part has the cause that it had there.
use Rattle.std.proofs.Common.{◌≡◌, ◌≤◌, Result, Ok, Err}
use Rattle.sqlite.specs.State.{State}
use Rattle.docket_tables.specs.Causes.{IsCausedFault, FailsForCause}
use Rattle.docket_tables.specs.declared.fault.ReadFault.{ReadFault}
use Rattle.docket_tables.specs.declared.fault.ReadFault.TheVariants.{Store, NoMemory, Damaged}
use Rattle.docket_tables.proofs.CauseLemmas.{caused_after}

-- the part began later
pub fault_after : (first old new : State) (f : ReadFault) → first.faults ≤ old.faults → old.step_limit ≡ first.step_limit → IsCausedFault old new f → IsCausedFault first new f
fault_after first old new (Store e) counts limit cause = caused_after first old new e counts limit cause
fault_after first old new NoMemory counts limit cause = tt
fault_after first old new Damaged counts limit cause = tt

pub fails_after : {X : Type 0} (first old new : State) (result : Result X ReadFault) → first.faults ≤ old.faults → old.step_limit ≡ first.step_limit → FailsForCause old new result → FailsForCause first new result
fails_after first old new (Ok x) counts limit cause = tt
fails_after first old new (Err f) counts limit cause = fault_after first old new f counts limit cause
