-- Why the reading of a table fails, in a database of any schema.
use Rattle.std.proofs.Common.{◌≡◌, ◌∙◌, inl, inr, [], length, true, false, Bool, IsTrue, IsSome, Result, Ok, Err, IfErr, IsErrAnd, refl, sym, ap, subst, arith}
use Rattle.std.proofs.lemmas.Bool.{false≢true}
use Rattle.sqlite.specs.Clock.{timed}
use Rattle.sqlite.specs.Command.{Command}
use Rattle.sqlite.specs.Command.TheVariants.{Select as Run}
use Rattle.sqlite.specs.Effect.{Database, RefusesToRead, is_query}
use Rattle.sqlite.specs.State.{State, HasCause, HasCleanDisk, FailsToQuery, FailsToShow, IsNoStatement, IsNotRun, Survives, store_error}
use Rattle.sqlite.specs.declared.error.Error.{Error}
use Rattle.sqlite.specs.declared.error.Error.TheVariants.{SqliteFailure, SqlInputError}
use Rattle.sqlite.specs.declared.error.ErrorCode.TheVariants.{TypeMismatch, IntegerOverflow, OutOfMemory}
use Rattle.sqlite_trees.specs.declared.error.StoreError.{StoreError}
use Rattle.sqlite_trees.specs.declared.error.StoreError.TheVariants as store
use Rattle.docket_tables.specs.Texts.{scan_text}
use Rattle.docket_tables.specs.declared.table.Table.{Table}
use Rattle.docket_scan.specs.Causes.{HasFailed, IsCausedError, IsCausedFault}
use Rattle.docket_scan.specs.Finding.{court_fault}
use Rattle.docket_scan.specs.Judging.{fault_in}
use Rattle.docket_scan.specs.Scans.{is_refusal}
use Rattle.docket_scan.specs.declared.fault.AdoptFault.{AdoptFault}
use Rattle.docket_scan.specs.declared.fault.AdoptFault.TheVariants.{Empty, NotADocket, OtherVersion, Damaged, NoMemory, StoreFailed}
use Rattle.docket_scan.proofs.AnySchema.{understood_plain}
use Rattle.docket_scan.proofs.ScanLemmas.{no_times}

store_cause : (e : Error) (cause : StoreError) (old new : State) → e ≡ store_error cause → HasCause old new ⊥ cause → IsCausedError old new e
store_cause e store.OutOfMemory old new is has = inl is
store_cause e store.Io old new is has = inr (inr (inl has))
store_cause e store.Corrupt old new is has = inr (inr (inl has))
store_cause e store.Full old new is has = inr (inr (inl has))
store_cause e store.Broken old new is has = inr (inr (inr (inr has)))
store_cause e store.Unstorable old new is has = absurd has

refusal : (old new : State) (e f : Error) → e ≡ f → IsTrue (is_refusal f) → IsCausedError old new e
refusal old new e f is refused = inr (inl (subst (λ x. IsTrue (is_refusal x)) (sym is) refused))

module _ (t : Table) (old new : State) (e : Error) where
  -- the statement of a table is one, and has no parameters
  not_run : IsNoStatement old (scan_text t) [] e → IsCausedError old new e
  not_run (inl known) = refusal old new e (SqlInputError known.0) known.2 refl
  not_run (inr (c, known, inl (more, is))) = absurd (more (understood_plain t old.now.schema c known).0.whole)
  not_run (inr (c, known, inr (inl (other, is)))) = absurd (other (sym (ap (λ names. length names) (understood_plain t old.now.schema c known).0.names)))
  not_run (inr (c, known, inr (inr (timed, is)))) = absurd (timed (understood_plain t old.now.schema c known).0.formats)

  -- a query is refused for what it says, or at the limit on steps
  not_read : (k : Command) (db : Database) → is_query k ≡ true → RefusesToRead old.step_limit k db [] e → IsCausedError old new e
  not_read (Run q names) db query (inl typed) = refusal old new e (SqliteFailure TypeMismatch) typed.0 refl
  not_read (Run q names) db query (inr (inl over)) = refusal old new e (SqliteFailure IntegerOverflow) over.0 refl
  not_read (Run q names) db query (inr (inr stopped)) = inr (inr (inr (inl stopped.1)))
  not_read _ db query h = absurd cc

  pub scan_caused : FailsToQuery (scan_text t) [] old new e → IsCausedError old new e
  unfolding FailsToQuery IsNotRun
  scan_caused (inl (inl never)) = not_run never.0
  scan_caused (inl (inr fails)) = store_cause e fails.0 old new fails.1 fails.2
  scan_caused (inr run) =
      let known = run.1.is in
      let plain = (understood_plain t old.now.schema run.0 known).0 in
      let it = subst (FailsToShow old new (scan_text t) run.0 (timed [] run.0.formats run.1.now) e) plain.returning run.2 in
      not_read run.0.command it.0 plain.query (subst (λ p. RefusesToRead old.step_limit run.0.command it.0 p e) (no_times t old run.0 run.1.now known) it.2)

-- what was caused in a later part was caused in the whole

module _ {first old new : State} (before : Survives first old (λ _. ⊥)) (after : Survives old new (λ _. ⊥)) (clean : HasCleanDisk new) where
  failed_shut : (opened : Bool) → first.is_open ≡ opened → old.is_open ≡ false → HasFailed first new
  failed_shut false is shut = inr (inr is)
  failed_shut true is shut = elim (before.closes (omega (arith, after.clean, clean)) is) [
    | inl opens ↦ absurd (false≢true (sym shut ∙ opens))
    | inr more ↦ inl (omega (arith, more, after.counts))
  ]

  pub failed_after : HasFailed old new → HasFailed first new
  failed_after (inl more) = inl (omega (arith, more, before.counts))
  failed_after (inr (inl limit)) = inr (inl (subst IsSome before.limit limit))
  failed_after (inr (inr shut)) = failed_shut first.is_open refl shut

  pub error_after : (e : Error) → IsCausedError old new e → IsCausedError first new e
  error_after e (inl memory) = inl memory
  error_after e (inr (inl refused)) = inr (inl refused)
  error_after e (inr (inr failed)) = inr (inr (failed_after failed))

  pub fault_after : (fault : AdoptFault) → IsCausedFault old new fault → IsCausedFault first new fault
  fault_after StoreFailed failed = failed_after failed
  fault_after Empty failed = tt
  fault_after NotADocket failed = tt
  fault_after OtherVersion failed = tt
  fault_after (Damaged t) failed = tt
  fault_after NoMemory failed = tt

  pub result_after : {X : Type 0} (r : Result X AdoptFault) → IfErr r (IsCausedFault old new) → IfErr r (IsCausedFault first new)
  result_after (Ok x) cause = tt
  result_after (Err fault) cause = fault_after fault cause

-- the fault that an error becomes

pub fault_caused : (t : Table) (old new : State) (e : Error) → IsCausedError old new e → IsCausedFault old new (fault_in t e)
fault_caused t old new (SqlInputError why) cause = tt
fault_caused t old new (SqliteFailure TypeMismatch) cause = tt
fault_caused t old new (SqliteFailure IntegerOverflow) cause = tt
fault_caused t old new (SqliteFailure OutOfMemory) cause = tt
fault_caused t old new _ (inl memory) = absurd (let no = memory in cc)
fault_caused t old new _ (inr (inl refused)) = absurd (let no = refused in cc)
fault_caused t old new _ (inr (inr failed)) = failed

pub court_caused : (old new : State) (e : Error) → IsCausedError old new e → IsCausedFault old new (court_fault e)
court_caused old new (SqlInputError why) cause = tt
court_caused old new (SqliteFailure TypeMismatch) cause = tt
court_caused old new (SqliteFailure IntegerOverflow) cause = tt
court_caused old new (SqliteFailure OutOfMemory) cause = tt
court_caused old new _ (inl memory) = absurd (let no = memory in cc)
court_caused old new _ (inr (inl refused)) = absurd (let no = refused in cc)
court_caused old new _ (inr (inr failed)) = failed

-- an error that is passed on

pub err_caused : {X : Type 0} (old new : State) (fault : AdoptFault) (r : Result X AdoptFault) → IsErrAnd r (λ f. f ≡ fault) → IsCausedFault old new fault → IfErr r (IsCausedFault old new)
err_caused old new fault (Ok x) same cause = absurd same
err_caused old new fault (Err f) same cause = subst (IsCausedFault old new) (sym same) cause

pub same_caused : {X : Type 0} (t : Table) (old new : State) (e : Error) (r : Result X AdoptFault) → IfErr r (λ f. f ≡ fault_in t e) → IsCausedError old new e → IfErr r (IsCausedFault old new)
same_caused t old new e (Ok x) same cause = tt
same_caused t old new e (Err f) same cause = subst (IsCausedFault old new) (sym same) (fault_caused t old new e cause)

pub error_caused : {X : Type 0} (old new : State) (e : Error) (r : Result X Error) → IsErrAnd r (λ f. f ≡ e) → IsCausedError old new e → IfErr r (IsCausedError old new)
error_caused old new e (Ok x) same cause = absurd same
error_caused old new e (Err f) same cause = subst (IsCausedError old new) (sym same) cause
