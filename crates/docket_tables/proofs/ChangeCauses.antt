-- What is caused in a part of a transaction is caused in the whole.
use Rattle.std.proofs.Common.{◌≡◌, ◌≤◌, inl, inr, ◌<◌, ℕ, zero, suc, List, [], ◌∷◌, length, take, get_or, IsSome, Result, Ok, Err, IfErr, IsErrAnd, sym, subst, arith}
use Rattle.std.specs.List.{AllByRecursion}
use Rattle.std.proofs.lemmas.Result.{IfErr-weaker}
use Rattle.sqlite.specs.Order.{Row}
use Rattle.sqlite.specs.State.{State}
use Rattle.sqlite.specs.declared.error.Error.{Error}
use Rattle.docket_decisions.specs.Tables.{Tables, changed, all_changed}
use Rattle.docket_history.specs.declared.row.Change.{Change}
use Rattle.docket_orderly.specs.Additions.{MayAdd, MayAddAll}
use Rattle.docket_decisions.specs.Additions.{AddsOnce, AddsAmong}
use Rattle.docket_decisions.specs.EndRows.{changed_ends, all_changed_ends}
use Rattle.docket_decisions.specs.declared.end_row.EndChange.{EndChange}
use Rattle.docket_decisions.specs.declared.end_row.EndChange.TheVariants.{Add, Remove, Move}
use Rattle.docket_decisions.specs.declared.end_row.StoredEnd.{StoredEnd}
use Rattle.docket_tables.specs.Additions.{MayStand}
use Rattle.docket_tables.specs.Causes.{HasAddCause, HasChangeCause, IsCaused, IsChangeFault, IsReadingFault}
use Rattle.docket_tables.specs.Layouts.{Rows, Fits}
use Rattle.docket_tables.specs.Readings.{IsReadAs}
use Rattle.docket_tables.specs.Stands.{Sees}
use Rattle.docket_tables.specs.declared.fault.ReadFault.{ReadFault}
use Rattle.docket_tables.specs.declared.fault.ReadFault.TheVariants.{Store, NoMemory, Damaged}
use Rattle.docket_tables.specs.declared.table.Table.{Table}

pub caused_within : (first old new last : State) (e : Error) → first.faults ≤ old.faults → new.faults ≤ last.faults → old.step_limit ≡ first.step_limit → IsCaused old new e → IsCaused first last e
caused_within first old new last e counts later limit (inl disk) = inl (disk.0, omega (arith, disk.1, counts, later))
caused_within first old new last e counts later limit (inr (inl short)) = inr (inl short)
caused_within first old new last e counts later limit (inr (inr stopped)) = inr (inr (stopped.0, subst IsSome limit stopped.1))

pub change_after : (first old new last : State) (e : Error) → first.faults ≤ old.faults → new.faults ≤ last.faults → old.step_limit ≡ first.step_limit → HasChangeCause old new e → HasChangeCause first last e
change_after first old new last e counts later limit (inl caused) = inl (caused_within first old new last e counts later limit caused)
change_after first old new last e counts later limit (inr none) = inr none

pub fault_after : (first old new last : State) (fault : ReadFault) → first.faults ≤ old.faults → new.faults ≤ last.faults → old.step_limit ≡ first.step_limit → IsChangeFault old new fault → IsChangeFault first last fault
fault_after first old new last (Store e) counts later limit cause = change_after first old new last e counts later limit cause
fault_after first old new last NoMemory counts later limit cause = tt
fault_after first old new last Damaged counts later limit cause = cause

pub reading_after : (first old new last : State) (fault : ReadFault) → first.faults ≤ old.faults → new.faults ≤ last.faults → old.step_limit ≡ first.step_limit → IsReadingFault old new fault → IsReadingFault first last fault
reading_after first old new last (Store e) counts later limit cause = caused_within first old new last e counts later limit cause
reading_after first old new last NoMemory counts later limit cause = tt
reading_after first old new last Damaged counts later limit cause = cause

-- what a reading may fail for, a part that may change rows may too
pub reading_changes : (old new : State) (fault : ReadFault) → IsReadingFault old new fault → IsChangeFault old new fault
reading_changes old new (Store e) cause = inl cause
reading_changes old new NoMemory cause = tt
reading_changes old new Damaged cause = cause

-- an error that is passed on has the cause that it had
pub caused_passed : {X : Type 0} (old new : State) (e : Error) (result : Result X Error) → IsErrAnd result (λ f. f ≡ e) → IsCaused old new e → IfErr result (IsCaused old new)
caused_passed old new e (Ok x) same cause = tt
caused_passed old new e (Err f) same cause = subst (IsCaused old new) (sym same) cause

pub change_passed : {X : Type 0} (old new : State) (e : Error) (result : Result X Error) → IsErrAnd result (λ f. f ≡ e) → HasChangeCause old new e → IfErr result (HasChangeCause old new)
change_passed old new e (Ok x) same cause = tt
change_passed old new e (Err f) same cause = subst (HasChangeCause old new) (sym same) cause

pub fault_passed : {X : Type 0} (old new : State) (fault : ReadFault) (result : Result X ReadFault) → IsErrAnd result (λ f. f ≡ fault) → IsChangeFault old new fault → IfErr result (IsChangeFault old new)
fault_passed old new fault (Ok x) same cause = tt
fault_passed old new fault (Err f) same cause = subst (IsChangeFault old new) (sym same) cause

pub reading_passed : {X : Type 0} (old new : State) (fault : ReadFault) (result : Result X ReadFault) → IsErrAnd result (λ f. f ≡ fault) → IsReadingFault old new fault → IfErr result (IsReadingFault old new)
reading_passed old new fault (Ok x) same cause = tt
reading_passed old new fault (Err f) same cause = subst (IsReadingFault old new) (sym same) cause

-- a row that is given by its values
pub row_caused : {X : Type 0} (result : Result X Error) (old new : State) (table : Table) (values cells : Row) (rows : Rows) → values ≡ cells → Fits table cells → MayStand table cells rows → Sees old rows
    → (Fits table values → (rows : Rows) → Sees old rows → MayStand table values rows → IfErr result (HasAddCause table old new)) → IfErr result (HasChangeCause old new)
row_caused result old new table values cells rows is fits may sees clause =
    IfErr-weaker result _ _ (λ e h. elim h [ inl caused ↦ inl caused | inr none ↦ inr none.0 ]) (clause (subst (Fits table) (sym is) fits) rows sees (subst (λ v. MayStand table v rows) (sym is) may))

-- each change may be made when it comes
pub may_at : (all : List Change) (i : ℕ) (x : Change) (t : Tables) → i < length all → x ≡ get_or all i x → MayAddAll all t → MayAdd x (all_changed (take i all) t)
may_at [] i x t low is may = absurd (omega (arith, low))
may_at (y ∷ all) zero x t low is may = subst (λ z. MayAdd z t) (sym is) may.0
may_at (y ∷ all) (suc i) x t low is may = may_at all i x (changed y t) (omega (arith, low)) is may.1

pub each_at : (P : Change → Type 0) (all : List Change) (i : ℕ) (x : Change) → i < length all → x ≡ get_or all i x → AllByRecursion P all → P x
each_at P [] i x low is each = absurd (omega (arith, low))
each_at P (y ∷ all) zero x low is each = subst P (sym is) each.0
each_at P (y ∷ all) (suc i) x low is each = each_at P all i x (omega (arith, low)) is each.1

-- the error of a question inside is returned as the fault of the store
pub reading_told : {X : Type 0} (old new : State) (e : Error) (result : Result X ReadFault) → IsErrAnd result (λ f. f ≡ Store e) → IsCaused old new e → IfErr result (IsReadingFault old new)
reading_told old new e (Ok x) same cause = tt
reading_told old new e (Err f) same cause = subst (IsReadingFault old new) (sym same) cause

-- and so is that of a change
pub fault_told : {X : Type 0} (old new : State) (e : Error) (result : Result X ReadFault) → IsErrAnd result (λ f. f ≡ Store e) → HasChangeCause old new e → IfErr result (IsChangeFault old new)
fault_told old new e (Ok x) same cause = tt
fault_told old new e (Err f) same cause = subst (IsChangeFault old new) (sym same) cause

-- reading a docket's rows fails only when out of memory
pub fault_read : {X : Type 0} (old new : State) (answer : X → Type 0) (result : Result X ReadFault) → IsReadAs answer result → IfErr result (IsReadingFault old new)
fault_read old new answer (Ok x) read = tt
fault_read old new answer (Err (Store e)) read = absurd read
fault_read old new answer (Err NoMemory) read = tt
fault_read old new answer (Err Damaged) read = absurd read

-- so may each change of an end

first_once : (y : EndChange) (all : List EndChange) (ends : List StoredEnd) → AddsOnce (y ∷ all) ends → AddsOnce (y ∷ []) ends × AddsOnce all (changed_ends y ends)
first_once (Add row) all ends once = ((once.0, tt), once.1)
first_once (Remove k n) all ends once = (tt, once)
first_once (Move row) all ends once = (tt, once)

first_among : (IsThere : ℕ → ℕ → Type 0) (y : EndChange) (all : List EndChange) → AddsAmong IsThere (y ∷ all) → AddsAmong IsThere (y ∷ []) × AddsAmong IsThere all
first_among IsThere (Add row) all among = ((among.0, tt), among.1)
first_among IsThere (Remove k n) all among = (tt, among)
first_among IsThere (Move row) all among = (tt, among)

pub once_at : (all : List EndChange) (i : ℕ) (other : EndChange) (ends : List StoredEnd) → i < length all → AddsOnce all ends → AddsOnce (get_or all i other ∷ []) (all_changed_ends (take i all) ends)
once_at [] i other ends low once = absurd (omega (arith, low))
once_at (y ∷ all) zero other ends low once = (first_once y all ends once).0
once_at (y ∷ all) (suc i) other ends low once = once_at all i other (changed_ends y ends) (omega (arith, low)) (first_once y all ends once).1

pub among_at : (IsThere : ℕ → ℕ → Type 0) (all : List EndChange) (i : ℕ) (other : EndChange) → i < length all → AddsAmong IsThere all → AddsAmong IsThere (get_or all i other ∷ [])
among_at IsThere [] i other low among = absurd (omega (arith, low))
among_at IsThere (y ∷ all) zero other low among = (first_among IsThere y all among).0
among_at IsThere (y ∷ all) (suc i) other low among = among_at IsThere all i other (omega (arith, low)) (first_among IsThere y all among).1
