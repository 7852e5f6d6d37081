-- Why the question fails.
use Rattle.std.proofs.Common.{◌≡◌, inl, inr, ◌∙◌, ◌≤◌, ℕ, [], ◌∷◌, ◌++◌, length, append-nil, true, false, IsTrue, IfErr, IsErrAnd, MatchResult, Some, Result, Ok, Err, refl, sym, ap, subst, subst₂, arith}
use Rattle.sqlite.specs.Order.{Row}
use Rattle.sqlite.specs.Command.{Command}
use Rattle.sqlite.specs.Command.TheVariants.{Select}
use Rattle.sqlite.specs.Effect.{Database, RefusesToRead}
use Rattle.sqlite.specs.Given.{Advances, FailsToAdvance, HasBegun, HasGiven}
use Rattle.sqlite.specs.Held.{Held, state}
use Rattle.sqlite.specs.Listing.{understood, reads_listing, IsSourceOf}
use Rattle.sqlite.specs.Program.{ProgramOverflows}
use Rattle.sqlite.specs.State.{State, HasCause, IsNoStatement, IsNotRun, IsUnchanged, FailsToQuery, is_disk_error, store_error}
use Rattle.sqlite.specs.Store.{Ghosts}
use Rattle.sqlite.specs.declared.error.Error.{Error}
use Rattle.sqlite.proofs.Callers.{IsPlain, begun_plain}
use Rattle.sqlite_resolve.specs.declared.compiled.Compiled.{Compiled}
use Rattle.sqlite_resolve.specs.declared.error.CompileError.{CompileError}
use Rattle.sqlite_tied.specs.Compute.{everything}
use Rattle.sqlite_trees.specs.declared.error.StoreError.{StoreError}
use Rattle.sqlite_trees.specs.declared.error.StoreError.TheVariants as store
use Rattle.docket_tables.specs.Causes.{IsCaused, IsCausedFault}
use Rattle.docket_tables.specs.Schema.{docket_schema}
use Rattle.docket_tables.specs.declared.fault.ReadFault.{ReadFault}
use Rattle.docket_tables.proofs.PassedCauses.{fault_after}
use Rattle.docket_calendar.specs.Question.{question, days_asked}
use Rattle.docket_calendar.specs.Stops.{IsCausedStop, IsStopAt, IsUnderWay}
use Rattle.docket_calendar.specs.declared.stop.Stop.{Stop}
use Rattle.docket_calendar.specs.declared.stop.Stop.TheVariants.{NotBegun, Broken, WriteFailed}
use Rattle.docket_calendar.proofs.JoinMeans.{asked, names, asks_no_listing, asks_plainly}

abbrev command : Command
command = Select (record { lets = []; body = asked }) names

-- the text is one statement, which takes two parameters
abbrev IsOne : Result Compiled CompileError → Type 0
IsOne (Ok c) = (c.tail ≡ length question) × (length c.names ≡ 2) × (c.command ≡ command) × IsPlain (Ok c)
IsOne (Err e) = ⊥

one_statement : IsOne (understood docket_schema question)
unfolding understood everything
one_statement = (refl, refl, refl, (refl, refl))

store_cause : (e : Error) (cause : StoreError) (old new : State) → IsTrue old.is_open → e ≡ store_error cause → HasCause old new ⊥ cause → IsCaused old new e
store_cause e store.OutOfMemory old new live is has = inr (inl is)
store_cause e store.Io old new live is has = inl (subst (λ x. IsTrue (is_disk_error x)) (sym is) refl, has)
store_cause e store.Corrupt old new live is has = inl (subst (λ x. IsTrue (is_disk_error x)) (sym is) refl, has)
store_cause e store.Full old new live is has = inl (subst (λ x. IsTrue (is_disk_error x)) (sym is) refl, has)
store_cause e store.Broken old new live is has = absurd (let no = sym live ∙ has in cc)
store_cause e store.Unstorable old new live is has = absurd has

-- a text that is one statement is understood
never_misread : (from to : ℕ) (s : State) (e : Error) → IsOne (understood s.now.schema question) → IsNoStatement s question (days_asked from to) e → ⊥
never_misread from to s e one (inl (fault, known, is)) = subst IsOne known one
never_misread from to s e one (inr (c, known, inl (more, is))) = more (omega (arith, (subst IsOne known one).0))
never_misread from to s e one (inr (c, known, inr (inl (other, is)))) = other (sym (subst IsOne known one).1)
never_misread from to s e one (inr (c, known, inr (inr (timed, is)))) = timed (subst IsOne known one).3.1

-- a query that is typed, and sums up nothing, is refused only at the limit on steps
refused : (from to : ℕ) (old new : State) (e : Error) → RefusesToRead old.step_limit command (record { schema = docket_schema; trees = old.now.trees }) (days_asked from to) e → IsCaused old new e
refused from to old new e (inl mistyped) = absurd (let no : true ≡ false = mistyped.1 in cc)
refused from to old new e (inr (inl over)) = absurd (none over.1)
  where
    none : ProgramOverflows old.now.trees (days_asked from to) [] [] asked → ⊥
    none (inl never) = never
    none (inr (i, due, above, is, (j, deadline, below, one, never))) = never
refused from to old new e (inr (inr stopped)) = inr (inr stopped)

-- what the question fails for over the tables of a docket
pub question_caused : (from to : ℕ) (old new : State) (e : Error) → old.now.schema ≡ docket_schema → IsTrue old.is_open → FailsToQuery question (days_asked from to) old new e → IsCaused old new e
unfolding FailsToQuery IsNotRun
question_caused from to old new e has live = go
  where
    one : IsOne (understood old.now.schema question)
    one = subst (λ s. IsOne (understood s question)) (sym has) one_statement

    go : FailsToQuery question (days_asked from to) old new e → IsCaused old new e
    go (inl (inl never)) = absurd (never_misread from to old e one never.0)
    go (inl (inr fails)) = store_cause e fails.0 old new live fails.1 fails.2
    go (inr run) =
        let is = subst IsOne run.1.is one in
        let it = rw (is.3.0, is.3.1, append-nil (days_asked from to)) at run.2 in
        let db : it.0 ≡ old.now = subst (λ b. IsSourceOf b old.now it.0) (ap (λ s. reads_listing s question) has ∙ asks_no_listing) it.1 in
        let source : it.0 ≡ record { schema = docket_schema; trees = old.now.trees } = db ∙ ap (λ s. record { schema = s; trees = old.now.trees }) has in
        refused from to old new e (subst₂ (λ k d. RefusesToRead old.step_limit k d (days_asked from to) e) is.2 source it.2)

module _ {S : Type 0} (g : Ghosts S) (old new : Held S) where
  -- why no further row can be read
  pub advance_caused : (e : Error) → IsUnderWay g old → FailsToAdvance g old new e → IsCaused (state g old) (state g new) e
  unfolding HasGiven
  advance_caused e way fails = question_caused way.first way.last (state g old) (state g new) e way.schema way.asked.0.is_open (fails question (days_asked way.first way.last) way.given way.asked)

  -- a row leaves the question under way
  pub goes_on : (row : Row) → IsUnderWay g old → IsUnchanged (state g old) (state g new) → Advances g old new (Some row) → IsUnderWay g new
  goes_on row way same advances = record {
    first = way.first;
    last = way.last;
    given = way.given ++ row ∷ [];
    asked = advances question (days_asked way.first way.last) way.given way.asked;
    schema = ap (λ (d : Database). d.schema) same.0.now_is ∙ way.schema;
  }

-- a question that could be asked is under way
pub begins : {S : Type 0} (g : Ghosts S) (first last : ℕ) (old new : Held S) → old.schema ≡ docket_schema → HasBegun g question (days_asked first last) old new → IsUnderWay g new
begins g first last old new has begun =
    let plain = subst (λ s. IsPlain (understood s question)) (sym has) asks_plainly in
    let given = begun_plain g question (days_asked first last) old new plain begun in
    record { first = first; last = last; given = []; asked = given.0; schema = ap (λ (d : Database). d.schema) given.1.0.now_is ∙ has }

-- the error of a part is that of the whole
pub err_matches : {X E : Type 0} (P : X → Type 0) (Q : E → Type 0) (f : E) (result : Result X E) → IsErrAnd result (λ other. other ≡ f) → Q f → MatchResult result P Q
err_matches P Q f (Ok x) same cause = absurd same
err_matches P Q f (Err other) same cause = subst Q (sym same) cause

pub err_caused : {X E : Type 0} (Q : E → Type 0) (f : E) (result : Result X E) → IsErrAnd result (λ other. other ≡ f) → Q f → IfErr result Q
err_caused Q f (Ok x) same cause = absurd same
err_caused Q f (Err other) same cause = subst Q (sym same) cause

pub stop_caused : (old new : State) (lines : ℕ) (fault : ReadFault) (stop : Stop) → IsStopAt lines fault stop → IsCausedFault old new fault → IsCausedStop old new stop
stop_caused old new lines fault (NotBegun found) at cause = subst (IsCausedFault old new) (sym at.1) cause
stop_caused old new lines fault (Broken found) at cause = subst (IsCausedFault old new) (sym at.1) cause
stop_caused old new lines fault WriteFailed at cause = absurd at

-- what was caused in a later part was caused in the whole
pub stop_after : (first old new : State) (stop : Stop) → first.faults ≤ old.faults → old.step_limit ≡ first.step_limit → IsCausedStop old new stop → IsCausedStop first new stop
stop_after first old new (NotBegun fault) counts limit cause = fault_after first old new fault counts limit cause
stop_after first old new (Broken fault) counts limit cause = fault_after first old new fault counts limit cause
stop_after first old new WriteFailed counts limit cause = tt

pub result_after : {X : Type 0} (first old new : State) (result : Result X Stop) → first.faults ≤ old.faults → old.step_limit ≡ first.step_limit → IfErr result (IsCausedStop old new) → IfErr result (IsCausedStop first new)
result_after first old new (Ok x) counts limit cause = tt
result_after first old new (Err stop) counts limit cause = stop_after first old new stop counts limit cause
