use Rattle.docket_tables.proofs.ChangeCauses.{fault_after, fault_passed, reading_changes}
use Rattle.sqlite.specs.State.{HasCleanDisk}
use Rattle.std.proofs.Common.{◌≡◌, subst, arith}
use Rattle.std.proofs.lemmas.Result.{IfOk-weaker, IfErr-weaker}
use Rattle.sqlite.specs.Held.{state}
use Rattle.docket_decisions.specs.EndRows.{calendar_in}
use Rattle.docket_tables.specs.AnyRows.{with_stored}
use Rattle.docket_tables.specs.Contents.{rows_with}
use Rattle.docket_applying.specs.Settling.{settled_cases}
use Rattle.docket_tables.specs.Stands.{Sees}
use Rattle.docket_tables.proofs.InsideLemmas.{failed_after, inside_after, inside_with}
use Rattle.docket_applying.proofs.settling.settle_by_rows.Goals as goal

pub returns-in_err-calendar-clause-inside : goal.returns-in_err-calendar-clause-inside
returns-in_err-calendar-clause-inside g c t ends orderly stored only =
    failed_after (state g.S.Store c.args.tx.now.conn.now) (state g.S.Store c.calendar_standing.new.tx.conn.now) (rows_with c.args.court.now t ends) _ c.from_residual.result _
    (λ sees. (c.calendar_standing.ensures.inside c.args.court.now t ends orderly sees).0) c.from_residual.ensures.0

pub returns-clause-inside : goal.returns-clause-inside
returns-clause-inside g c t ends orderly stored only =
    let court = c.args.court.now in
    let rows = rows_with court t ends in
    let start = state g.S.Store c.args.tx.now.conn.now in
    let mid = state g.S.Store c.calendar_standing.new.tx.conn.now in
    let new = state g.S.Store c.settle_cases.new.tx.conn.now in
    let entered = c.in_ok-calendar.calendar in
    let n = c.args.cases in
    let Same = entered ≡ calendar_in t in
    inside_with start mid new rows rows (rows_with court t (settled_cases court (calendar_in t) t n ends)) Same c.settle_cases.result _ (c.in_ok-calendar.ensures.inside c.args.court.now t ends orderly)
    (λ sees. (c.settle_cases.ensures.inside t ends orderly stored only sees).0)
    (λ clean same sees.
    IfOk-weaker c.settle_cases.result _ _ (λ u h. (subst (λ e. Sees new (rows_with court t (settled_cases court e t n ends))) same h.0, h.1)) ((c.settle_cases.ensures.inside t ends orderly stored only (λ _. sees)).1 clean))

pub returns-in_err-calendar-clause-any : goal.returns-in_err-calendar-clause-any
returns-in_err-calendar-clause-any g c stored rows =
    let held = with_stored stored rows in (
      stored,
      failed_after (state g.S.Store c.args.tx.now.conn.now) (state g.S.Store c.calendar_standing.new.tx.conn.now) held held c.from_residual.result _
          (λ sees. (c.calendar_standing.ensures.still held sees).0) c.from_residual.ensures.0,
    )

pub returns-clause-any : goal.returns-clause-any
returns-clause-any g c stored rows =
    let start = state g.S.Store c.args.tx.now.conn.now in
    let mid = state g.S.Store c.calendar_standing.new.tx.conn.now in
    let new = state g.S.Store c.settle_cases.new.tx.conn.now in
    let held = with_stored stored rows in
    let settled = c.settle_cases.ensures.any stored rows in
    (settled.0, inside_after start mid new held held (with_stored settled.0 rows) (Unit {0}) c.settle_cases.result (λ _. Unit {0}) (λ _. Unit {0}) (c.in_ok-calendar.ensures.still held) settled.1 (λ a y b. tt))

pub returns-in_err-calendar-clause-cause : goal.returns-in_err-calendar-clause-cause
returns-in_err-calendar-clause-cause g c clean t ends orderly sound stored only sees =
    let start = state g.S.Store c.args.tx.now.conn.now in
    let mid = state g.S.Store c.calendar_standing.new.tx.conn.now in
    let fault = c.in_err-calendar.field-0.0 in
    fault_passed start mid fault c.from_residual.result c.from_residual.ensures.1 (reading_changes start mid fault (c.in_err-calendar.ensures.cause clean c.args.court.now t ends orderly sound sees))

pub returns-clause-cause : goal.returns-clause-cause
returns-clause-cause g c clean t ends orderly sound stored only sees =
    let start = state g.S.Store c.args.tx.now.conn.now in
    let mid = state g.S.Store c.calendar_standing.new.tx.conn.now in
    let new = state g.S.Store c.settle_cases.new.tx.conn.now in
    let between : HasCleanDisk mid = omega (arith, clean, c.settle_cases.ensures.clean) in
    let went = c.in_ok-calendar.ensures.inside c.args.court.now t ends orderly (λ _. sees) in
    IfErr-weaker c.settle_cases.result _ _ (λ fault h. fault_after start mid new new fault went.0.survives.counts (omega arith) went.0.survives.limit h)
    (c.settle_cases.ensures.cause clean t ends orderly sound stored only (went.1 between).0)
