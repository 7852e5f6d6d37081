-- The error for which a question was not answered, and its cause.
use Rattle.std.proofs.Common.{◌≡◌, ◌∙◌, ◌≤◌, ◌↔◌, ℕ, Bool, true, false, inl, inr, Option, Some, IfErr, IsErrAnd, MatchResult, Result, Ok, Err, refl, sym, ap, subst, arith}
use Rattle.sqlite.specs.State.{State}
use Rattle.sqlite.specs.declared.error.Error.{Error}
use Rattle.docket_tables.specs.Causes.{FailsForCause, IsCaused, IsCausedFault, IsLater}
use Rattle.docket_tables.specs.declared.fault.ReadFault.{ReadFault}
use Rattle.docket_tables.specs.declared.fault.ReadFault.TheVariants.{Store}
use Rattle.docket_tables.proofs.ChangeCauses.{change_after}
use Rattle.docket_command.specs.declared.command.Command.{Command}
use Rattle.docket_applying.specs.declared.fault.Fault.TheVariants as fault
use Rattle.docket_tables.proofs.PassedCauses.{fault_after}
use Rattle.docket_applying.specs.Causes.{IsNamed, IsCausedBy, IsCausedEnd, HasWriteCause, IsCausedWrite}
use Rattle.docket_applying.specs.Listing.{HasBroken}
use Rattle.docket_applying.specs.declared.listing.ListingEnd.{ListingEnd}
use Rattle.docket_applying.specs.declared.listing.ListingEnd.TheVariants.{NotBegun, Broken, WriteFailed}
use Rattle.docket_applying.specs.Told.{IsNotTold}
use Rattle.docket_applying.specs.declared.fault.Fault.{Fault}
use Rattle.docket_applying.specs.declared.fault.Fault.TheVariants.{Refused, NoMemory, StoreFailed, Closed, Damaged}

-- no later step takes a cause away
caused_still : (first old new : State) (e : Error) → old.faults ≤ new.faults → IsCaused first old e → IsCaused first new e
caused_still first old new e counts (inl disk) = inl (disk.0, omega (arith, disk.1, counts))
caused_still first old new e counts (inr other) = inr other

-- the fault of a question that the tables did not answer
pub blamed_caused : (first old new : State) (f : ReadFault) (failure : Option Error) (fault : Fault) → old.faults ≤ new.faults
    → (fault ≡ StoreFailed → (e : Error) × (f ≡ Store e) × (failure ≡ Some e)) → IsCausedFault first old f → IsCausedBy first new failure fault
blamed_caused first old new f failure (Refused r) counts blames cause = tt
blamed_caused first old new f failure NoMemory counts blames cause = tt
blamed_caused first old new f failure StoreFailed counts blames cause =
    let it = blames refl in (it.0, it.2, caused_still first old new it.0 counts (subst (IsCausedFault first old) it.1 cause))
blamed_caused first old new f failure Closed counts blames cause = tt
blamed_caused first old new f failure Damaged counts blames cause = tt

-- the part began later
pub caused_by_after : (first old new : State) (failure : Option Error) (fault : Fault) → first.faults ≤ old.faults → old.step_limit ≡ first.step_limit → IsCausedBy old new failure fault → IsCausedBy first new failure fault
caused_by_after first old new failure (Refused r) counts limit cause = tt
caused_by_after first old new failure NoMemory counts limit cause = tt
caused_by_after first old new failure StoreFailed counts limit cause = (cause.0, cause.1, fault_after first old new (Store cause.0) counts limit cause.2)
caused_by_after first old new failure Closed counts limit cause = tt
caused_by_after first old new failure Damaged counts limit cause = tt

pub caused_later : {X : Type 0} (first old new : State) (failure : Option Error) (result : Result X Fault) → first.faults ≤ old.faults → old.step_limit ≡ first.step_limit → IfErr result (IsCausedBy old new failure)
    → IfErr result (IsCausedBy first new failure)
caused_later first old new failure (Ok x) counts limit cause = tt
caused_later first old new failure (Err fault) counts limit cause = caused_by_after first old new failure fault counts limit cause

-- the fault of a part is that of the whole
pub err_caused_by : {X : Type 0} (old new : State) (failure : Option Error) (fault : Fault) (result : Result X Fault) → IsErrAnd result (λ f. f ≡ fault) → IsCausedBy old new failure fault → IfErr result (IsCausedBy old new failure)
err_caused_by old new failure fault (Ok x) same cause = absurd same
err_caused_by old new failure fault (Err f) same cause = subst (IsCausedBy old new failure) (sym same) cause

pub err_named : {X : Type 0} (failure : Option Error) (fault : Fault) (result : Result X Fault) → IsErrAnd result (λ f. f ≡ fault) → IsNamed failure fault → IfErr result (IsNamed failure)
err_named failure fault (Ok x) same named = absurd same
err_named failure fault (Err f) same named = subst (IsNamed failure) (sym same) named

-- no answer, for another reason than the database
not_told_caused : (old new : State) (failure : Option Error) (Sound : Type 0) (fault : Fault) → IsNotTold Sound fault → IsCausedBy old new failure fault
not_told_caused old new failure Sound (Refused r) why = tt
not_told_caused old new failure Sound NoMemory why = tt
not_told_caused old new failure Sound StoreFailed why = absurd why
not_told_caused old new failure Sound Closed why = tt
not_told_caused old new failure Sound Damaged why = tt

not_told_named : (failure : Option Error) (Sound : Type 0) (fault : Fault) → IsNotTold Sound fault → IsNamed failure fault
not_told_named failure Sound (Refused r) why = tt
not_told_named failure Sound NoMemory why = tt
not_told_named failure Sound StoreFailed why = absurd why
not_told_named failure Sound Closed why = tt
not_told_named failure Sound Damaged why = tt

pub told_caused : {X : Type 0} (old new : State) (failure : Option Error) (Sound : Type 0) (P : X → Type 0) (result : Result X Fault) → MatchResult result P (IsNotTold Sound) → IfErr result (IsCausedBy old new failure)
told_caused old new failure Sound P (Ok x) told = tt
told_caused old new failure Sound P (Err fault) told = not_told_caused old new failure Sound fault told

pub told_named : {X : Type 0} (failure : Option Error) (Sound : Type 0) (P : X → Type 0) (result : Result X Fault) → MatchResult result P (IsNotTold Sound) → IfErr result (IsNamed failure)
told_named failure Sound P (Ok x) told = tt
told_named failure Sound P (Err fault) told = not_told_named failure Sound fault told

-- the database failed
pub failed_caused : {X : Type 0} (old new : State) (failure : Option Error) (result : Result X Fault) → result ≡ Err StoreFailed → IfErr result (IsCausedBy old new failure) → IsCausedBy old new failure StoreFailed
failed_caused old new failure result failed cause = subst (λ r. IfErr r (IsCausedBy old new failure)) failed cause

-- whether the docket was closed before or not, it is closed then
pub failed_closes : {X : Type 0} (old new : Bool) (result : Result X Fault) → (old ≡ true → result ≡ Err Closed) → (old ≡ false → (new ≡ true) ↔ (result ≡ Err StoreFailed)) → result ≡ Err StoreFailed → new ≡ true
failed_closes true new result shut closes failed = absurd (let no = sym (shut refl) ∙ failed in cc)
failed_closes false new result shut closes failed = (closes refl).1 failed

abbrev fault_in : {X : Type 0} → Result X Fault → Fault
fault_in (Ok x) = Damaged
fault_in (Err fault) = fault

pub same_fault : {X : Type 0} (result : Result X Fault) (a b : Fault) → result ≡ Err a → result ≡ Err b → a ≡ b
same_fault result a b one other = sym (ap fault_in one) ∙ ap fault_in other

-- the same of a calendar

pub end_caused_after : (first old new : State) (failure : Option Error) (result : Result ℕ ListingEnd) → first.faults ≤ old.faults → old.step_limit ≡ first.step_limit → IfErr result (IsCausedEnd old new failure)
    → IfErr result (IsCausedEnd first new failure)
end_caused_after first old new failure (Ok lines) counts limit cause = tt
end_caused_after first old new failure (Err (NotBegun fault)) counts limit cause = caused_by_after first old new failure fault counts limit cause
end_caused_after first old new failure (Err (Broken fault)) counts limit cause = caused_by_after first old new failure fault counts limit cause
end_caused_after first old new failure (Err WriteFailed) counts limit cause = tt

pub broken_caused : (old new : State) (failure : Option Error) (result : Result ℕ ListingEnd) → HasBroken result → IfErr result (IsCausedEnd old new failure) → IsCausedBy old new failure StoreFailed
broken_caused old new failure result (inl none) cause = subst (λ r. IfErr r (IsCausedEnd old new failure)) none cause
broken_caused old new failure result (inr part) cause = subst (λ r. IfErr r (IsCausedEnd old new failure)) part cause

-- the error that a question to the tables failed for, and its cause
pub told_cause : {X : Type 0} (first old new : State) (answer : Result X ReadFault) (by : Option Error) → old.faults ≤ new.faults → (e : Error) × (answer ≡ Err (Store e)) × (by ≡ Some e) → FailsForCause first old answer
    → (e : Error) × (by ≡ Some e) × IsCaused first new e
told_cause first old new answer by counts blamed cause = (blamed.0, blamed.2, caused_still first old new blamed.0 counts (subst (FailsForCause first old) blamed.1 cause))

-- where nothing was written yet, the cause is one that a write may have
pub writes_caused : (c : Command) (old new : State) (failure : Option Error) (fault : Fault) → IsCausedBy old new failure fault → IsCausedWrite c old new failure fault
writes_caused c old new failure (fault.Refused r) cause = tt
writes_caused c old new failure fault.NoMemory cause = tt
writes_caused c old new failure fault.StoreFailed cause = (cause.0, cause.1, inl (inl cause.2))
writes_caused c old new failure fault.Closed cause = tt
writes_caused c old new failure fault.Damaged cause = tt

pub err_writes : {X : Type 0} (c : Command) (old new : State) (failure : Option Error) (fault : Fault) (result : Result X Fault) → IsErrAnd result (λ f. f ≡ fault) → IsCausedBy old new failure fault → IfErr result (IsCausedWrite c old new failure)
err_writes c old new failure fault (Ok x) same cause = absurd same
err_writes c old new failure fault (Err f) same cause = subst (IsCausedWrite c old new failure) (sym same) (writes_caused c old new failure fault cause)

-- the part began later
pub write_caused_after : (c : Command) (first old new : State) (e : Error) → first.faults ≤ old.faults → old.step_limit ≡ first.step_limit → HasWriteCause c old new e → HasWriteCause c first new e
write_caused_after c first old new e counts limit (inl cause) = inl (change_after first old new new e counts (omega arith) limit cause)
write_caused_after c first old new e counts limit (inr long) = inr long

pub writes_later : {X : Type 0} (c : Command) (first old new : State) (failure : Option Error) (result : Result X Fault) → first.faults ≤ old.faults → old.step_limit ≡ first.step_limit
    → IfErr result (IsCausedWrite c old new failure) → IfErr result (IsCausedWrite c first new failure)
writes_later c first old new failure (Ok x) counts limit cause = tt
writes_later c first old new failure (Err (fault.Refused r)) counts limit cause = tt
writes_later c first old new failure (Err fault.NoMemory) counts limit cause = tt
writes_later c first old new failure (Err fault.StoreFailed) counts limit cause = (cause.0, cause.1, write_caused_after c first old new cause.0 counts limit cause.2)
writes_later c first old new failure (Err fault.Closed) counts limit cause = tt
writes_later c first old new failure (Err fault.Damaged) counts limit cause = tt

-- the fault that a kept error becomes
pub kept_caused : (c : Command) (old new : State) (failure : Option Error) (e : Error) (fault : Fault) → failure ≡ Some e → HasWriteCause c old new e → IsCausedWrite c old new failure fault
kept_caused c old new failure e (fault.Refused r) kept cause = tt
kept_caused c old new failure e fault.NoMemory kept cause = tt
kept_caused c old new failure e fault.StoreFailed kept cause = (e, kept, cause)
kept_caused c old new failure e fault.Closed kept cause = tt
kept_caused c old new failure e fault.Damaged kept cause = tt

-- the database failed as a command was applied
pub failed_write : {X : Type 0} (c : Command) (old new : State) (failure : Option Error) (result : Result X Fault) → result ≡ Err StoreFailed → IfErr result (IsCausedWrite c old new failure) → IsCausedWrite c old new failure StoreFailed
failed_write c old new failure result failed cause = subst (λ r. IfErr r (IsCausedWrite c old new failure)) failed cause

-- later than a later state is later
pub later_then : (first old new : State) → IsLater first old → IsLater old new → IsLater first new
later_then first old new one next = (omega (arith, one.0, next.0), next.1 ∙ one.1)

-- a docket stays open where its database does not fail
pub stays_open : {X : Type 0} (new : Bool) (result : Result X Fault) → (new ≡ true) ↔ (result ≡ Err StoreFailed) → (result ≡ Err StoreFailed → ⊥) → new ≡ false
stays_open false result closes other = refl
stays_open true result closes other = absurd (other (closes.0 refl))
