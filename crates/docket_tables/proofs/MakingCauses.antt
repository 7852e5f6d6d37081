-- Why a statement inside a transaction fails, and its commit.
use Rattle.std.proofs.Common.{◌≡◌, ◌≢◌, ◌≤◌, true≢false, IsSome, ◌⊎◌, inl, inr, ◌∙◌, ◌||◌, ℕ, Bool, List, length, append-nil, true, false, is_some, None, Some, Option, Result, Ok, Err, IsTrue, IfErr, IsErrAnd, refl, sym, ap, subst, arith}
use Rattle.sqlite.specs.Order.{Row}
use Rattle.sqlite.specs.Calls.{IsWrite}
use Rattle.sqlite.specs.Command.{Command}
use Rattle.sqlite.specs.Command.TheVariants.{Select, Rows}
use Rattle.sqlite.specs.Does.{Does}
use Rattle.sqlite.specs.Effect.{is_query}
use Rattle.sqlite.specs.Listing.{understood}
use Rattle.sqlite.specs.State.{State, mode_of, HasCause, Fails, IsNoStatement, IsMisplaced, IsNotRun, RunsCommand, Escapes, EndsScope, ExecutesIn, ExecutesInside, is_disk_error, is_pragma, shows_rows, store_error, text_of}
use Rattle.sqlite.specs.Steps.{FailsToCommit}
use Rattle.sqlite.specs.declared.error.Error.{Error}
use Rattle.sqlite.specs.declared.error.Error.TheVariants.{SqliteFailure}
use Rattle.sqlite.specs.declared.error.ErrorCode.TheVariants.{OutOfMemory}
use Rattle.sqlite.proofs.Callers.{IsPlain, statement_of}
use Rattle.sqlite_resolve.specs.declared.compiled.Compiled.{Compiled}
use Rattle.sqlite_resolve.specs.declared.error.CompileError.{CompileError}
use Rattle.sqlite_schema.specs.declared.command.Returning.{Returning}
use Rattle.sqlite_trees.specs.declared.error.StoreError.{StoreError}
use Rattle.sqlite_trees.specs.declared.error.StoreError.TheVariants as store
use Rattle.docket_tables.specs.Causes.{IsCaused, HasMakingCause, IsCausedMaking}
use Rattle.docket_tables.specs.declared.fault.StoreFault.{StoreFault}
use Rattle.docket_tables.specs.declared.fault.StoreFault.TheVariants as making

-- the text is one statement, which takes this many parameters
abbrev pub IsOne : List ℕ → ℕ → Command → Result Compiled CompileError → Type 0
IsOne sql n command (Ok c) = (c.tail ≡ length sql) × (length c.names ≡ n) × (c.command ≡ command) × IsPlain (Ok c)
IsOne sql n command (Err e) = ⊥

-- a text that is one statement is understood
pub never_misread : (sql : List ℕ) (command : Command) (params : Row) (s : State) (e : Error) → IsOne sql (length params) command (understood s.now.schema sql) → IsNoStatement s sql params e → ⊥
never_misread sql command params s e one (inl (fault, known, is)) = subst (IsOne sql (length params) command) known one
never_misread sql command params s e one (inr (c, known, inl (more, is))) = more (omega (arith, (subst (IsOne sql (length params) command) known one).0))
never_misread sql command params s e one (inr (c, known, inr (inl (other, is)))) = other (sym (subst (IsOne sql (length params) command) known one).1)
never_misread sql command params s e one (inr (c, known, inr (inr (timed, is)))) = timed (subst (IsOne sql (length params) command) known one).3.1

-- where the store failed, and nothing was too big for it
store_caused : (e : Error) (cause : StoreError) (old new : State) (too_big : Type 0) → (too_big → ⊥) → e ≡ store_error cause → HasCause old new too_big cause → HasMakingCause old new e
store_caused e store.OutOfMemory old new too_big small is has = inl (inr (inl is))
store_caused e store.Io old new too_big small is has = inl (inl (subst (λ x. IsTrue (is_disk_error x)) (sym is) refl, has))
store_caused e store.Corrupt old new too_big small is has = inl (inl (subst (λ x. IsTrue (is_disk_error x)) (sym is) refl, has))
store_caused e store.Full old new too_big small is has = inl (inl (subst (λ x. IsTrue (is_disk_error x)) (sym is) refl, has))
store_caused e store.Broken old new too_big small is has = inr has
store_caused e store.Unstorable old new too_big small is has = absurd (small has)

pub fails_caused : (old new : State) (too_big : Type 0) (e : Error) → (too_big → ⊥) → Fails old new too_big e → HasMakingCause old new e
fails_caused old new too_big e small fails = store_caused e fails.0 old new too_big small fails.1 fails.2

-- the connection was open, so that only the other causes are left
pub open_caused : (old new : State) (e : Error) → IsTrue old.is_open → HasMakingCause old new e → IsCaused old new e
open_caused old new e opened (inl caused) = caused
open_caused old new e opened (inr shut) = absurd (true≢false (sym opened ∙ shut))

-- a write ends no transaction, begins none, and shows no rows

never_misplaced : (s : State) (command : Command) (e : Error) → IsWrite command → IsMisplaced s command e → ⊥
never_misplaced s command e writes (inl (is, inl begin)) = subst IsWrite begin.0 writes
never_misplaced s command e writes (inl (is, inr (inl commit, off))) = subst IsWrite commit writes
never_misplaced s command e writes (inl (is, inr (inr rollback, off))) = subst IsWrite rollback writes
never_misplaced s command e writes (inr (is, name, inl release, none)) = subst IsWrite release writes
never_misplaced s command e writes (inr (is, name, inr back, none)) = subst IsWrite back writes

never_escapes : (held : ℕ) (s : State) (command : Command) → IsWrite command → Escapes held s command → ⊥
never_escapes held s command writes (inl (inl commit)) = subst IsWrite commit writes
never_escapes held s command writes (inl (inr rollback)) = subst IsWrite rollback writes
never_escapes held s command writes (inr (name, inl release, has)) = subst IsWrite release writes
never_escapes held s command writes (inr (name, inr back, has)) = subst IsWrite back writes

quiet : (command : Command) → IsWrite command → (is_query command ≡ false) × (is_pragma command ≡ false)
quiet (Select q names) writes = absurd writes
quiet (Rows values width names) writes = absurd writes
quiet _ writes = (refl, refl)

shows_none : (c : Compiled) → IsWrite c.command → c.returning ≡ None → shows_rows false c ≡ false
shows_none c writes none =
    let still = quiet c.command writes in
    ap (λ b. b || (is_pragma c.command || is_some c.returning)) still.0 ∙ ap (λ b. b || is_some c.returning) still.1 ∙ ap (λ (r : Option Returning). is_some r) none

-- a write that is one statement, inside a transaction, fails only for a cause where it is refused only for one and no row is too big
module _ (sql : List ℕ) (command : Command) (params : Row) (old new : State) (e : Error) (one : IsOne sql (length params) command (understood old.now.schema sql)) (writes : IsWrite command) where
  abbrev Stops : Option Error → Type 0
  Stops stop = Does old.step_limit (mode_of old) params old.now (statement_of sql (understood old.now.schema sql)) None command (Err stop)

  abbrev At : Compiled → Type 0
  At c = IsOne sql (length params) command (Ok c)

  -- it fails for a cause, or is refused
  pub write_stops : (Stops None → ⊥) → ExecutesInside 0 sql params old new (Err e) → HasMakingCause old new e ⊎ Stops (Some e)
  unfolding ExecutesIn EndsScope IsNotRun
  write_stops small (inl (inl (inl never), left)) = absurd (never_misread sql command params old e one never.0)
  write_stops small (inl (inl (inr fails), left)) = inl (fails_caused old new ⊥ e (λ no. no) fails)
  write_stops small (inl (inr (c, it, ran), left)) =
      let is : At c = subst (IsOne sql (length params) command) it.is one in
      let quiet : shows_rows false c ≡ false = shows_none c (subst IsWrite (sym is.2) writes) is.3.0 in
      let runs : RunsCommand old new sql c params (Err e) = rw (is.3.1, append-nil params, quiet) at ran in
      let Given : Option Error → Type 0 = λ stop. Does old.step_limit (mode_of old) params old.now (text_of sql c) c.returning c.command (Err stop) in
      let back : (stop : Option Error) → Given stop → Stops stop = λ stop h. rw (it.is, ← is.2, ← is.3.0) h in
      elim runs [
        | inl (inl misplaced, same) ↦ absurd (never_misplaced old c.command e (subst IsWrite (sym is.2) writes) misplaced)
        | inl (inr refused, same) ↦ inr (back (Some e) refused.1)
        | inr fails ↦ inl (fails_caused old new (Given None) e (λ h. small (back None h)) fails)
      ]
  write_stops small (inr (ends, is, same)) =
      absurd (never_escapes 0 old ends.0.command (subst IsWrite (sym (subst (IsOne sql (length params) command) ends.1.is one).2) writes) ends.2)

  pub write_caused : (Stops (Some e) → HasMakingCause old new e) → (Stops None → ⊥) → ExecutesInside 0 sql params old new (Err e) → HasMakingCause old new e
  write_caused unrefused small ran = elim (write_stops small ran) [ inl caused ↦ caused | inr refused ↦ unrefused refused ]

-- a connection that was open with a transaction begun still is
abbrev pub StaysBegun : State → State → Type 0
StaysBegun old new = (IsTrue old.is_open → IsTrue new.is_open) × (IsTrue old.in_transaction → IsTrue new.in_transaction)

-- a commit inside a transaction fails only for a cause
pub commit_caused : (old new : State) (e : Error) → IsTrue old.in_transaction → FailsToCommit old new e → HasMakingCause old new e
commit_caused old new e begun (inl fails) = fails_caused old new ⊥ e (λ none. none) fails
commit_caused old new e begun (inr (is, off, same)) = absurd (true≢false (sym begun ∙ off))

-- what was caused in a part was caused in the whole, where the connection was open before the part if it was at first
pub making_after : (first old new last : State) (e : Error) → first.faults ≤ old.faults → new.faults ≤ last.faults → old.step_limit ≡ first.step_limit → (IsTrue first.is_open → IsTrue old.is_open)
    → HasMakingCause old new e → HasMakingCause first last e
making_after first old new last e counts later limit opened (inl (inl disk)) = inl (inl (disk.0, omega (arith, disk.1, counts, later)))
making_after first old new last e counts later limit opened (inl (inr (inl short))) = inl (inr (inl short))
making_after first old new last e counts later limit opened (inl (inr (inr stopped))) = inl (inr (inr (stopped.0, subst IsSome limit stopped.1)))
making_after first old new last e counts later limit opened (inr shut) = inr (shut_before first.is_open old.is_open opened shut)
  where
    shut_before : (b c : Bool) → (IsTrue b → IsTrue c) → c ≡ false → b ≡ false
    shut_before true c opened shut = absurd (true≢false (sym (opened refl) ∙ shut))
    shut_before false c opened shut = refl

memory_or_other : (e : Error) → (e ≡ SqliteFailure OutOfMemory) ⊎ (e ≢ SqliteFailure OutOfMemory)
memory_or_other (SqliteFailure OutOfMemory) = inl refl
memory_or_other _ = inr (λ is. let never = is in cc)

-- the fault made from an error is out of memory only if the error is
pub told_making : (old new : State) (failure : Option Error) (e : Error) (fault : StoreFault) → failure ≡ Some e → (e ≢ SqliteFailure OutOfMemory → fault ≡ making.StoreFailed)
    → HasMakingCause old new e → IsCausedMaking old new failure fault
told_making old new failure e making.StoreFailed is other cause = (e, is, cause)
told_making old new failure e making.NoMemory is other cause =
    elim (memory_or_other e) [ inl memory ↦ (e, is, memory) | inr differs ↦ absurd (let never = other differs in cc) ]

-- an error that is passed on has the cause that it had
pub passed_on : {X : Type 0} (old new : State) (e : Error) (result : Result X Error) → IsErrAnd result (λ f. f ≡ e) → HasMakingCause old new e → IfErr result (HasMakingCause old new)
passed_on old new e (Ok x) same cause = tt
passed_on old new e (Err f) same cause = subst (HasMakingCause old new) (sym same) cause

-- what was caused since the transaction began was caused since before
pub caused_since : (start begun last end : State) (e : Error) → begun ≡ record start { in_transaction = true } → last.faults ≤ end.faults → HasMakingCause begun last e → HasMakingCause start end e
caused_since start begun last end e begins later cause =
    making_after start (record start { in_transaction = true }) last end e (omega arith) later refl (λ opened. opened) (subst (λ s. HasMakingCause s last e) begins cause)
