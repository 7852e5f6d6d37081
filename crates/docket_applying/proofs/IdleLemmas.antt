-- What a question to an idle connection leaves that consists of others.
use Rattle.std.proofs.Common.{◌≡◌, false, sym, subst, IfErr, IsErrAnd, Option, Some, Result, Ok, Err}
use Rattle.sqlite.specs.Held.{Held, state}
use Rattle.sqlite.specs.State.{Survives}
use Rattle.sqlite.specs.Store.{Ghosts}
use Rattle.sqlite.specs.declared.error.Error.{Error}
use Rattle.docket_tables.specs.Asking.{OnlyAsks}
use Rattle.docket_tables.specs.Layouts.{Rows}
use Rattle.docket_tables.specs.Readings.{StaysAt}
use Rattle.docket_tables.specs.declared.fault.ReadFault.{ReadFault}
use Rattle.docket_tables.specs.declared.fault.ReadFault.TheVariants.{Store}
use Rattle.docket_tables.proofs.NothingLemmas.{clean_before, nothing_then}
use Rattle.docket_applying.specs.AnyRows.{PreservesAt}
use Rattle.docket_applying.specs.Asking.{LeavesIdle}
use Rattle.docket_applying.specs.Causes.{IsCausedBy, IsNamed}
use Rattle.docket_applying.specs.declared.fault.Fault.{Fault}
use Rattle.docket_applying.specs.declared.fault.Fault.TheVariants.{NoMemory, StoreFailed}
use Rattle.docket_applying.proofs.AnyLemmas.{held_after}
use Rattle.docket_applying.proofs.FailureLemmas.{blamed_caused, caused_later}

-- the tables gave the answer
pub found_idle : {S : Type 0} {g : Ghosts S} {X Y : Type 0} {old new : Held S} {failure : Option Error} {x : X} {y : Y} → old.in_transaction ≡ false → OnlyAsks g old new (Ok x) → LeavesIdle g old new failure (Ok y)
found_idle idle one = record {
  idle = one.mode idle;
  stays = one.stays;
  writes_nothing = one.writes_nothing;
  named = tt;
  cause = λ rows holds clean. tt;
}

-- they gave none, and the fault comes from theirs
module _ {S : Type 0} {g : Ghosts S} {X Y : Type 0} {old mid new : Held S} {why : ReadFault} {failure : Option Error} {fault : Fault} (one : OnlyAsks g {X = X} old mid (Err why)) where
  pub unread_idle : new.in_transaction ≡ false → ((rows : Rows) → StaysAt g mid rows why → PreservesAt g new rows fault) → Survives (state g mid) (state g new) (λ _. ⊥) → IsNamed failure fault
      → (fault ≡ StoreFailed → (e : Error) × (why ≡ Store e) × (failure ≡ Some e)) → LeavesIdle g {X = Y} old new failure (Err fault)
  unread_idle idle stays nothing named blames = record {
    idle = idle;
    stays = λ rows holds. stays rows (one.stays rows holds);
    writes_nothing = nothing_then one.writes_nothing nothing;
    named = named;
    cause = λ rows holds settled. blamed_caused (state g old) (state g mid) (state g new) why failure fault nothing.counts blames (one.cause rows holds (clean_before nothing settled));
  }

-- one question after another
pub idle_then : {S : Type 0} {g : Ghosts S} {X Y : Type 0} {first mid last : Held S} {early failure : Option Error} {x : X} {result : Result Y Fault} → LeavesIdle g first mid early (Ok x) → LeavesIdle g mid last failure result → LeavesIdle g first last failure result
idle_then {S} {g} {X} {Y} {first} {mid} {last} {early} {failure} {x} {result} one two = record {
  idle = two.idle;
  stays = λ rows holds. two.stays rows (one.stays rows holds);
  writes_nothing = nothing_then one.writes_nothing two.writes_nothing;
  named = two.named;
  cause = λ rows holds clean. caused_later (state g first) (state g mid) (state g last) failure result one.writes_nothing.counts one.writes_nothing.limit (two.cause rows (one.stays rows holds) clean);
}

-- the fault of a question is that of the whole
pub idle_err : {S : Type 0} {g : Ghosts S} {X Y : Type 0} {old new : Held S} {failure : Option Error} {fault : Fault} (result : Result Y Fault) → IsErrAnd result (λ other. other ≡ fault) → LeavesIdle g {X = X} old new failure (Err fault) → LeavesIdle g old new failure result
idle_err (Ok y) same one = absurd same
idle_err {S} {g} {X} {Y} {old} {new} {failure} {fault} (Err other) same one =
    subst (λ (f : Fault). LeavesIdle g {X = Y} old new failure (Err f)) (sym same)
    (record { idle = one.idle; stays = one.stays; writes_nothing = one.writes_nothing; named = one.named; cause = one.cause })

-- what was found gives another answer, or is no answer for another reason
pub idle_told : {S : Type 0} {g : Ghosts S} {X Y : Type 0} {old new : Held S} {early failure : Option Error} {x : X} (result : Result Y Fault) → IfErr result (IsNamed failure) → IfErr result (IsCausedBy (state g old) (state g new) failure)
    → LeavesIdle g old new early (Ok x) → LeavesIdle g old new failure result
idle_told {S} {g} {X} {Y} {old} {new} {early} {failure} {x} result named caused one = record {
  idle = one.idle;
  stays = λ rows holds. held_after g new rows result (one.stays rows holds);
  writes_nothing = one.writes_nothing;
  named = named;
  cause = λ rows holds clean. caused;
}

pub idle_ok : {S : Type 0} {g : Ghosts S} {X Y : Type 0} {old new : Held S} {early failure : Option Error} {x : X} {y : Y} → LeavesIdle g old new early (Ok x) → LeavesIdle g old new failure (Ok y)
idle_ok {S} {g} {X} {Y} {old} {new} {early} {failure} {x} {y} one = idle_told (Ok y) tt tt one

-- memory ran out after a question
pub idle_short : {S : Type 0} {g : Ghosts S} {X Y : Type 0} {old new : Held S} {early failure : Option Error} {x : X} (result : Result Y Fault) → IsErrAnd result (λ other. other ≡ NoMemory) → LeavesIdle g old new early (Ok x) → LeavesIdle g old new failure result
idle_short (Ok y) same one = absurd same
idle_short {S} {g} {X} {Y} {old} {new} {early} {failure} {x} (Err other) same one =
    idle_told (Err other) (subst (IsNamed failure) (sym same) tt) (subst (IsCausedBy (state g old) (state g new) failure) (sym same) tt) one
