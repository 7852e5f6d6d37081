use Rattle.docket_tables.proofs.ChangeCauses.{fault_after, fault_passed}
use Rattle.sqlite.specs.State.{HasCleanDisk}
use Rattle.std.proofs.Common.{◌≡◌, ◌∙◌, ◌+◌, suc, refl, subst, arith}
use Rattle.sqlite.specs.Held.{state}
use Rattle.docket_tables.specs.AnyRows.{with_stored}
use Rattle.docket_tables.specs.Contents.{rows_with}
use Rattle.docket_applying.specs.Settling.{settled_case, settled_cases}
use Rattle.docket_tables.proofs.CommitLemmas.{inside_still}
use Rattle.docket_tables.proofs.InsideLemmas.{Went, failed_after, stays_after, went_after}
use Rattle.docket_applying.proofs.SettlingLemmas.{still_stored, still_runs_only}
use Rattle.docket_applying.proofs.settling.settle_cases.Goals as goal

pub cases-init : goal.cases-init
cases-init g c = (refl, λ t ends orderly are only sees. (inside_still _, λ clean. (sees clean, tt)), omega arith, λ stored rows. (stored, λ sees. (inside_still _, λ clean. (sees clean, tt))))

pub returns-in_err-settle_case-clause-same_reference : goal.returns-in_err-settle_case-clause-same_reference
returns-in_err-settle_case-clause-same_reference g c = c.settle_case.ensures.same_reference ∙ c.cases.invariant.0

pub returns-in_err-settle_case-clause-inside : goal.returns-in_err-settle_case-clause-inside
returns-in_err-settle_case-clause-inside g c t ends orderly are only =
    let court = c.args.court.now in
    let n = c.cases.done in
    let start = state g.S.Store c.args.tx.now.conn.now in
    let mid = state g.S.Store c.cases.tx.conn.now in
    let new = state g.S.Store c.settle_case.new.tx.conn.now in
    let settled = settled_cases court c.args.calendar.now t n ends in
    let stored = still_stored court c.args.calendar.now t n ends are in
    let runs = still_runs_only court c.args.calendar.now t n ends only in
    failed_after start new (rows_with court t ends) _ c.from_residual.result _
    (stays_after start mid new (rows_with court t ends) (rows_with court t settled) (Unit {0}) (c.cases.invariant.1 t ends orderly are only) (λ sees. (c.settle_case.ensures.inside t settled orderly stored runs sees).0)) c.from_residual.ensures.0

pub cases-preserved : goal.cases-preserved
cases-preserved g c = (
  c.settle_case.ensures.same_reference ∙ c.cases.invariant.0,
  λ t ends orderly are only.
      let court = c.args.court.now in
      let entered = c.args.calendar.now in
      let n = c.cases.done in
      let start = state g.S.Store c.args.tx.now.conn.now in
      let mid = state g.S.Store c.cases.tx.conn.now in
      let new = state g.S.Store c.settle_case.new.tx.conn.now in
      let settled = settled_cases court entered t n ends in
      let more : suc n ≡ n + 1 = omega arith in
      let stored = still_stored court entered t n ends are in
      let runs = still_runs_only court entered t n ends only in
      subst (λ m. Went start new (rows_with court t ends) (rows_with court t (settled_cases court entered t m ends)) (Unit {0})) more
      (went_after start mid new (rows_with court t ends) (rows_with court t settled) (rows_with court t (settled_case court entered t (n + 1) settled)) (Unit {0}) (Unit {0}) (Unit {0})
      (c.cases.invariant.1 t ends orderly are only) (c.in_ok-settle_case.ensures.inside t settled orderly stored runs) (λ a b. tt)),
  omega (arith, c.cases.invariant.2, c.settle_case.ensures.clean),
  λ stored rows.
      let start = state g.S.Store c.args.tx.now.conn.now in
      let mid = state g.S.Store c.cases.tx.conn.now in
      let new = state g.S.Store c.settle_case.new.tx.conn.now in
      let was = c.cases.invariant.3 stored rows in
      let now = c.in_ok-settle_case.ensures.any was.0 rows in
      (now.0, went_after start mid new (with_stored stored rows) (with_stored was.0 rows) (with_stored now.0 rows) (Unit {0}) (Unit {0}) (Unit {0}) was.1 now.1 (λ a b. tt)),
)

pub returns-clause-same_reference : goal.returns-clause-same_reference
returns-clause-same_reference g c = c.cases.invariant.0

pub returns-clause-inside : goal.returns-clause-inside
returns-clause-inside g c t ends orderly are only =
    let same : c.cases.done ≡ c.args.cases = omega (arith, c.cases.auto, c.cases-test.false) in
    subst (λ n. Went (state g.S.Store c.args.tx.now.conn.now) (state g.S.Store c.cases.tx.conn.now) (rows_with c.args.court.now t ends) (rows_with c.args.court.now t (settled_cases c.args.court.now c.args.calendar.now t n ends)) (Unit {0}))
    same (c.cases.invariant.1 t ends orderly are only)

pub returns-in_err-settle_case-clause-clean : goal.returns-in_err-settle_case-clause-clean
returns-in_err-settle_case-clause-clean g c = omega (arith, c.cases.invariant.2, c.settle_case.ensures.clean)

pub returns-clause-clean : goal.returns-clause-clean
returns-clause-clean g c = c.cases.invariant.2

pub returns-in_err-settle_case-clause-any : goal.returns-in_err-settle_case-clause-any
returns-in_err-settle_case-clause-any g c stored rows =
    let start = state g.S.Store c.args.tx.now.conn.now in
    let mid = state g.S.Store c.cases.tx.conn.now in
    let new = state g.S.Store c.settle_case.new.tx.conn.now in
    let held = with_stored stored rows in
    let was = c.cases.invariant.3 stored rows in (
      stored,
      failed_after start new held held c.from_residual.result _
          (stays_after start mid new held (with_stored was.0 rows) (Unit {0}) was.1 (λ sees. ((c.settle_case.ensures.any was.0 rows).1 sees).0)) c.from_residual.ensures.0,
    )

pub returns-clause-any : goal.returns-clause-any
returns-clause-any g c stored rows = c.cases.invariant.3 stored rows

pub returns-in_err-settle_case-clause-cause : goal.returns-in_err-settle_case-clause-cause
returns-in_err-settle_case-clause-cause g c clean t ends orderly sound are only sees =
    let court = c.args.court.now in
    let entered = c.args.calendar.now in
    let n = c.cases.done in
    let start = state g.S.Store c.args.tx.now.conn.now in
    let mid = state g.S.Store c.cases.tx.conn.now in
    let new = state g.S.Store c.settle_case.new.tx.conn.now in
    let before : HasCleanDisk mid = omega (arith, clean, c.settle_case.ensures.clean) in
    let went = c.cases.invariant.1 t ends orderly are only (λ _. sees) in
    let fault = c.in_err-settle_case.field-0.0 in
    fault_passed start new fault c.from_residual.result c.from_residual.ensures.1
    (fault_after start mid new new fault went.0.survives.counts (omega arith) went.0.survives.limit
    (c.in_err-settle_case.ensures.cause clean t (settled_cases court entered t n ends) orderly sound (still_stored court entered t n ends are) (went.1 before).0))
