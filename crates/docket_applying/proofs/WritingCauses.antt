-- Why a write fails.
use Rattle.std.proofs.Common.{◌≡◌, ◌∙◌, ◌≤◌, true, inl, inr, refl, subst, sym, arith}
use Rattle.sqlite.specs.State.{State}
use Rattle.sqlite.specs.declared.error.Error.{Error}
use Rattle.sqlite.specs.declared.error.Error.TheVariants.{SqliteFailure}
use Rattle.sqlite.specs.declared.error.ErrorCode.TheVariants.{OutOfMemory}
use Rattle.docket_tables.specs.Causes.{HasChangeCause, IsChangeFault, IsLater}
use Rattle.docket_tables.specs.declared.fault.ReadFault.{ReadFault}
use Rattle.docket_tables.specs.declared.fault.ReadFault.TheVariants.{Store, NoMemory, Damaged}
use Rattle.docket_tables.proofs.ChangeCauses.{change_after}

-- the error that a fault becomes has the cause of the fault
pub error_caused : (old new : State) (fault : ReadFault) (result : Error) → ((e : Error) → fault ≡ Store e → result ≡ e) → (fault ≡ NoMemory → result ≡ SqliteFailure OutOfMemory)
    → IsChangeFault old new fault → HasChangeCause old new result
error_caused old new (Store e) result store short cause = subst (HasChangeCause old new) (sym (store e refl)) cause
error_caused old new NoMemory result store short cause = inl (inr (inl (short refl)))
error_caused old new Damaged result store short cause = absurd cause

-- what was caused since the transaction began was caused since before
pub change_since : (start begun last end : State) (e : Error) → begun ≡ record start { in_transaction = true } → last.faults ≤ end.faults → HasChangeCause begun last e → HasChangeCause start end e
change_since start begun last end e begins later cause =
    change_after start (record start { in_transaction = true }) last end e (omega arith) later refl (subst (λ s. HasChangeCause s last e) begins cause)

-- a transaction ended on the connection that it began on
pub later_at_end : (start begun last end : State) → begun ≡ record start { in_transaction = true } → IsLater begun last → IsLater last end → IsLater start end
later_at_end start begun last end begins went ended =
    let was : IsLater start last = subst (λ s. IsLater s last) begins went in (omega (arith, was.0, ended.0), ended.1 ∙ was.1)
