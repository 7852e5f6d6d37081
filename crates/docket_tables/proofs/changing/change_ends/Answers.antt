use Rattle.docket_tables.proofs.ChangeCauses.{fault_after, fault_passed, once_at, among_at}
use Rattle.docket_orderly.specs.Additions.{HasDeadline}
use Rattle.sqlite.specs.State.{HasCleanDisk}
use Rattle.std.proofs.Common.{◌≡◌, ◌<◌, ◌∙◌, ◌∷◌, [], get_or, length, take, refl, sym, ap, subst, arith, rules}
use Rattle.std.proofs.lemmas.List.{take_all}
use Rattle.sqlite.specs.Held.{state}
use Rattle.docket_decisions.specs.Additions.{AddsOnce, AddsAmong}
use Rattle.docket_decisions.specs.EndRows.{all_changed_ends, changed_ends}
use Rattle.docket_tables.specs.AnyRows.{with_stored}
use Rattle.docket_tables.specs.Contents.{rows_with}
use Rattle.docket_tables.proofs.CommitLemmas.{inside_still}
use Rattle.docket_tables.proofs.EndLemmas.{changed_next_end}
use Rattle.docket_tables.proofs.InsideLemmas.{Went, failed_after, stays_after, went_after}
use Rattle.docket_tables.proofs.changing.change_ends.Goals as goal

pub changes-init : goal.changes-init
changes-init g c = (refl, λ court t ends sees. (inside_still _, λ clean. (sees clean, tt)), omega arith, λ stored rows sees. (inside_still _, λ clean. (sees clean, tt)))

pub returns-in_err-change_end-clause-same_reference : goal.returns-in_err-change_end-clause-same_reference
returns-in_err-change_end-clause-same_reference g c = c.change_end.ensures.same_reference ∙ c.changes.invariant.0

pub returns-in_err-change_end-clause-inside : goal.returns-in_err-change_end-clause-inside
returns-in_err-change_end-clause-inside g c court t ends =
    let start = state g.S.Store c.args.tx.now.conn.now in
    let mid = state g.S.Store c.changes.tx.conn.now in
    let new = state g.S.Store c.change_end.new.tx.conn.now in
    let done = all_changed_ends (take c.changes.change-index c.args.changes.now) ends in
    failed_after start new (rows_with court t ends) _ c.from_residual.result _
    (stays_after start mid new (rows_with court t ends) (rows_with court t done) (Unit {0}) (c.changes.invariant.1 court t ends) (λ sees. (c.change_end.ensures.inside court t done sees).0)) c.from_residual.ensures.0

pub changes-preserved : goal.changes-preserved
changes-preserved g c =
    let all = c.args.changes.now in
    let i = c.changes.change-index in
    let change = c.change-item.result in
    let is : change ≡ get_or all i change = search rules in
    let inside : i < length all = omega (arith, c.changes-test.true) in (
      c.change_end.ensures.same_reference ∙ c.changes.invariant.0,
      λ court t ends.
          let start = state g.S.Store c.args.tx.now.conn.now in
          let mid = state g.S.Store c.changes.tx.conn.now in
          let new = state g.S.Store c.change_end.new.tx.conn.now in
          let done = all_changed_ends (take i all) ends in
          subst (λ es. Went start new (rows_with court t ends) (rows_with court t es) (Unit {0})) (ap (λ x. changed_ends x done) is ∙ changed_next_end all ends i change inside)
          (went_after start mid new (rows_with court t ends) (rows_with court t done) _ (Unit {0}) (Unit {0}) (Unit {0}) (c.changes.invariant.1 court t ends) (c.in_ok-change_end.ensures.inside court t done) (λ a b. tt)),
      omega (arith, c.changes.invariant.2, c.change_end.ensures.clean),
      λ stored rows.
          let start = state g.S.Store c.args.tx.now.conn.now in
          let mid = state g.S.Store c.changes.tx.conn.now in
          let new = state g.S.Store c.change_end.new.tx.conn.now in
          let done = all_changed_ends (take i all) stored in
          subst (λ es. Went start new (with_stored stored rows) (with_stored es rows) (Unit {0})) (ap (λ x. changed_ends x done) is ∙ changed_next_end all stored i change inside)
          (went_after start mid new (with_stored stored rows) (with_stored done rows) _ (Unit {0}) (Unit {0}) (Unit {0}) (c.changes.invariant.3 stored rows) (c.in_ok-change_end.ensures.any done rows) (λ a b. tt)),
    )

pub returns-clause-same_reference : goal.returns-clause-same_reference
returns-clause-same_reference g c = c.changes.invariant.0

pub returns-clause-inside : goal.returns-clause-inside
returns-clause-inside g c court t ends =
    let all = c.args.changes.now in
    let start = state g.S.Store c.args.tx.now.conn.now in
    let new = state g.S.Store c.changes.tx.conn.now in
    let done : take c.changes.change-index all ≡ all = take_all _ all (omega (arith, c.changes-test.false)) in
    subst (λ xs. Went start new (rows_with court t ends) (rows_with court t (all_changed_ends xs ends)) (Unit {0})) done (c.changes.invariant.1 court t ends)

pub returns-in_err-change_end-clause-clean : goal.returns-in_err-change_end-clause-clean
returns-in_err-change_end-clause-clean g c = omega (arith, c.changes.invariant.2, c.change_end.ensures.clean)

pub returns-clause-clean : goal.returns-clause-clean
returns-clause-clean g c = c.changes.invariant.2

pub returns-in_err-change_end-clause-any : goal.returns-in_err-change_end-clause-any
returns-in_err-change_end-clause-any g c stored rows =
    let start = state g.S.Store c.args.tx.now.conn.now in
    let mid = state g.S.Store c.changes.tx.conn.now in
    let new = state g.S.Store c.change_end.new.tx.conn.now in
    let done = all_changed_ends (take c.changes.change-index c.args.changes.now) stored in
    failed_after start new (with_stored stored rows) _ c.from_residual.result _
    (stays_after start mid new (with_stored stored rows) (with_stored done rows) (Unit {0}) (c.changes.invariant.3 stored rows) (λ sees. (c.change_end.ensures.any done rows sees).0)) c.from_residual.ensures.0

pub returns-clause-any : goal.returns-clause-any
returns-clause-any g c stored rows =
    let all = c.args.changes.now in
    let start = state g.S.Store c.args.tx.now.conn.now in
    let new = state g.S.Store c.changes.tx.conn.now in
    let done : take c.changes.change-index all ≡ all = take_all _ all (omega (arith, c.changes-test.false)) in
    subst (λ xs. Went start new (with_stored stored rows) (with_stored (all_changed_ends xs stored) rows) (Unit {0})) done (c.changes.invariant.3 stored rows)

pub returns-in_err-change_end-clause-cause : goal.returns-in_err-change_end-clause-cause
returns-in_err-change_end-clause-cause g c clean court t ends sees once among =
    let all = c.args.changes.now in
    let i = c.changes.change-index in
    let change = c.change-item.result in
    let is : change ≡ get_or all i change = search rules in
    let inside : i < length all = omega (arith, c.changes-test.true) in
    let done = all_changed_ends (take i all) ends in
    let start = state g.S.Store c.args.tx.now.conn.now in
    let mid = state g.S.Store c.changes.tx.conn.now in
    let end = state g.S.Store c.change_end.new.tx.conn.now in
    let before : HasCleanDisk mid = omega (arith, clean, c.change_end.ensures.clean) in
    let went = c.changes.invariant.1 court t ends (λ _. sees) in
    let fault = c.in_err-change_end.field-0.0 in
    fault_passed start end fault c.from_residual.result c.from_residual.ensures.1
    (fault_after start mid end end fault went.0.survives.counts (omega arith) went.0.survives.limit
    (c.in_err-change_end.ensures.cause clean court t done (went.1 before).0 (subst (λ x. AddsOnce (x ∷ []) done) (sym is) (once_at all i change ends inside once)) (subst (λ x. AddsAmong (HasDeadline t) (x ∷ [])) (sym is) (among_at (HasDeadline t) all i change inside among))))
