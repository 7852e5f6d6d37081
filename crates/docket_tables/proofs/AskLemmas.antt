-- What a question leaves that consists of others.
use Rattle.std.proofs.Common.{◌≡◌, false, sym, subst, IfErr, IsErrAnd, Result, Ok, Err}
use Rattle.sqlite.specs.Store.{Ghosts}
use Rattle.sqlite.specs.State.{HasCleanDisk, Survives}
use Rattle.sqlite.specs.Held.{Held, state}
use Rattle.sqlite.specs.declared.error.Error.{Error}
use Rattle.docket_tables.specs.Asking.{OnlyAsks}
use Rattle.docket_tables.specs.Causes.{IsCaused, IsOwn}
use Rattle.docket_tables.specs.Layouts.{Rows}
use Rattle.docket_tables.specs.Stands.{HoldsRows, Lasts}
use Rattle.docket_tables.specs.declared.fault.ReadFault.{ReadFault}
use Rattle.docket_tables.specs.declared.fault.ReadFault.TheVariants.{Store, NoMemory}
use Rattle.docket_tables.proofs.CauseLemmas.{err_caused, own_caused}
use Rattle.docket_tables.proofs.NothingLemmas.{nothing_called, nothing_then}
use Rattle.docket_tables.proofs.PassedCauses.{fails_after}
use Rattle.docket_tables.proofs.ReadLemmas.{err_stays, stays}

-- no question
pub unasked : {S : Type 0} {g : Ghosts S} {X : Type 0} {conn : Held S} {x : X} → OnlyAsks g conn conn (Ok x)
unasked = record {
  stays = λ rows holds. holds;
  writes_nothing = nothing_called;
  mode = λ idle. idle;
  cause = λ rows holds clean. tt;
}

-- what was read gives another answer, or no answer, which is no failure of the store
pub asked_own : {S : Type 0} {g : Ghosts S} {X Y : Type 0} {old new : Held S} {x : X} (result : Result Y ReadFault) → IfErr result IsOwn → OnlyAsks g old new (Ok x) → OnlyAsks g old new result
asked_own {S} {g} {X} {Y} {old} {new} {x} result own one = record {
  stays = λ rows holds. stays g new rows result (one.stays rows holds);
  writes_nothing = one.writes_nothing;
  mode = one.mode;
  cause = λ rows holds clean. own_caused (state g old) (state g new) result own;
}

pub asked : {S : Type 0} {g : Ghosts S} {X Y : Type 0} {old new : Held S} {x : X} {y : Y} → OnlyAsks g old new (Ok x) → OnlyAsks g old new (Ok y)
asked {S} {g} {X} {Y} {old} {new} {x} {y} one = asked_own (Ok y) tt one

-- one question after another
pub asked_then : {S : Type 0} {g : Ghosts S} {X Y : Type 0} {first mid last : Held S} {x : X} {result : Result Y ReadFault} → OnlyAsks g first mid (Ok x) → OnlyAsks g mid last result → OnlyAsks g first last result
asked_then {S} {g} {X} {Y} {first} {mid} {last} {x} {result} one two = record {
  stays = λ rows holds. two.stays rows (one.stays rows holds);
  writes_nothing = nothing_then one.writes_nothing two.writes_nothing;
  mode = λ idle. two.mode (one.mode idle);
  cause = λ rows holds clean. fails_after (state g first) (state g mid) (state g last) result one.writes_nothing.counts one.writes_nothing.limit (two.cause rows (one.stays rows holds) clean);
}

-- the failure of a question is a failure of the whole
pub asked_err : {S : Type 0} {g : Ghosts S} {X Y : Type 0} {old new : Held S} {fault : ReadFault} (result : Result Y ReadFault) → IsErrAnd result (λ other. other ≡ fault) → OnlyAsks g {X = X} old new (Err fault) → OnlyAsks g old new result
asked_err (Ok y) same one = absurd same
asked_err {S} {g} {X} {Y} {old} {new} {fault} (Err other) same one =
    subst (λ (f : ReadFault). OnlyAsks g {X = Y} old new (Err f)) (sym same)
    (record { stays = one.stays; writes_nothing = one.writes_nothing; mode = one.mode; cause = one.cause })

-- memory ran out after a question
pub asked_short : {S : Type 0} {g : Ghosts S} {X Y : Type 0} {old new : Held S} {x : X} (result : Result Y ReadFault) → IsErrAnd result (λ other. other ≡ NoMemory) → OnlyAsks g old new (Ok x) → OnlyAsks g old new result
asked_short (Ok y) same one = absurd same
asked_short (Err other) same one = asked_own (Err other) (subst IsOwn (sym same) tt) one

-- a question to the store, whose rows are then read
module _ {S : Type 0} (g : Ghosts S) {X : Type 0} (old new : Held S) (result : Result X ReadFault)
    (mode : old.in_transaction ≡ false → new.in_transaction ≡ false) (nothing : Survives (state g old) (state g new) (λ _. ⊥)) where
  pub rows_read : ((rows : Rows) → HoldsRows g old rows → HoldsRows g new rows) → IfErr result IsOwn → OnlyAsks g old new result
  rows_read held own = record {
    stays = λ rows holds. stays g new rows result (held rows holds);
    writes_nothing = nothing;
    mode = mode;
    cause = λ rows holds settled. own_caused (state g old) (state g new) result own;
  }

  -- the store failed
  pub rows_unread : (e : Error) → IsErrAnd result (λ f. f ≡ Store e) → ((rows : Rows) → HoldsRows g old rows → Lasts g new rows)
      → ((rows : Rows) → HoldsRows g old rows → HasCleanDisk (state g new) → IsCaused (state g old) (state g new) e) → OnlyAsks g old new result
  rows_unread e same lasts caused = record {
    stays = λ rows holds. err_stays g new rows (Store e) result same (lasts rows holds);
    writes_nothing = nothing;
    mode = mode;
    cause = λ rows holds settled. err_caused (state g old) (state g new) e result same (caused rows holds settled);
  }
