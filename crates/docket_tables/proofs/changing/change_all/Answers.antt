use Rattle.docket_tables.specs.Additions.{AreStorable, values_added}
use Rattle.docket_tables.proofs.ChangeCauses.{change_after, change_passed, may_at, each_at}
use Rattle.std.proofs.Common.{◌≡◌, ◌∙◌, ◌<◌, length, take, get_or, refl, subst, arith, rules}
use Rattle.std.proofs.lemmas.List.{take_all}
use Rattle.sqlite.specs.Held.{state}
use Rattle.docket_decisions.specs.Tables.{all_changed}
use Rattle.docket_tables.specs.AnyRows.{all_rows_changed, next_after_all}
use Rattle.docket_tables.specs.Contents.{rows_with}
use Rattle.docket_tables.specs.Stands.{Sees}
use Rattle.docket_tables.proofs.AnyLemmas.{all_kept, any_changed_next, next_within}
use Rattle.docket_tables.proofs.ChangesLemmas.{counted_within, changed_next}
use Rattle.docket_tables.proofs.CommitLemmas.{inside_then, inside_still}
use Rattle.docket_tables.proofs.changing.change_all.Goals as goal

pub changes-init : goal.changes-init
changes-init g c = (refl, inside_still _, λ clean court t ends small sees. sees, λ clean court n stored rows are small sees. sees)

pub returns-in_err-change_row-clause-same_reference : goal.returns-in_err-change_row-clause-same_reference
returns-in_err-change_row-clause-same_reference g c = c.change_row.ensures.same_reference ∙ c.changes.invariant.0

pub returns-in_err-change_row-clause-inside : goal.returns-in_err-change_row-clause-inside
returns-in_err-change_row-clause-inside g c = inside_then _ _ _ c.changes.invariant.1 c.change_row.ensures.inside

pub changes-preserved : goal.changes-preserved
changes-preserved g c =
    let all = c.args.changes.now in
    let i = c.changes.change-index in
    let change = c.change-item.result in
    let is : change ≡ get_or all i change = search rules in
    let inside : i < length all = omega (arith, c.changes-test.true) in (
      c.change_row.ensures.same_reference ∙ c.changes.invariant.0,
      inside_then _ _ _ c.changes.invariant.1 c.change_row.ensures.inside,
      λ clean court t ends small sees.
          let was = c.changes.invariant.2 (omega (arith, c.change_row.ensures.inside.survives.clean)) court t ends small sees in
          let now = c.in_ok-change_row.ensures.ok clean court (all_changed (take i all) t) ends (omega (arith, small, counted_within all t i inside)) was in
          subst (λ s. Sees (state g.S.Store c.change_row.new.tx.conn.now) (rows_with court s ends)) (changed_next all change t i inside is) now,
      λ clean court n stored rows are small sees.
          let was = c.changes.invariant.3 (omega (arith, c.change_row.ensures.inside.survives.clean)) court n stored rows are small sees in
          let done = take i all in
          let now = c.in_ok-change_row.ensures.any clean court (next_after_all done n) stored (all_rows_changed court n done rows) (all_kept court n stored done rows are) (omega (arith, small, next_within all n i inside)) was in
          subst (Sees (state g.S.Store c.change_row.new.tx.conn.now)) (any_changed_next court n all change rows i inside is) now,
    )

pub returns-clause-same_reference : goal.returns-clause-same_reference
returns-clause-same_reference g c = c.changes.invariant.0

pub returns-clause-inside : goal.returns-clause-inside
returns-clause-inside g c = c.changes.invariant.1

pub returns-clause-ok : goal.returns-clause-ok
returns-clause-ok g c clean court t ends small sees =
    let all = c.args.changes.now in
    let done : take c.changes.change-index all ≡ all = take_all _ all (omega (arith, c.changes-test.false)) in
    subst (λ xs. Sees (state g.S.Store c.changes.tx.conn.now) (rows_with court (all_changed xs t) ends)) done (c.changes.invariant.2 clean court t ends small sees)

pub returns-clause-any : goal.returns-clause-any
returns-clause-any g c clean court n stored rows are small sees =
    let all = c.args.changes.now in
    let done : take c.changes.change-index all ≡ all = take_all _ all (omega (arith, c.changes-test.false)) in
    subst (λ xs. Sees (state g.S.Store c.changes.tx.conn.now) (all_rows_changed court n xs rows)) done (c.changes.invariant.3 clean court n stored rows are small sees)

pub returns-in_err-change_row-clause-cause : goal.returns-in_err-change_row-clause-cause
returns-in_err-change_row-clause-cause g c clean court t ends small short sees may storable =
    let all = c.args.changes.now in
    let i = c.changes.change-index in
    let change = c.change-item.result in
    let is : change ≡ get_or all i change = search rules in
    let inside : i < length all = omega (arith, c.changes-test.true) in
    let start = state g.S.Store c.args.tx.now.conn.now in
    let mid = state g.S.Store c.changes.tx.conn.now in
    let end = state g.S.Store c.change_row.new.tx.conn.now in
    let survives = c.changes.invariant.1.survives in
    let was = c.changes.invariant.2 (omega (arith, clean, c.change_row.ensures.inside.survives.clean)) court t ends small sees in
    let cause = c.in_err-change_row.ensures.cause clean court (all_changed (take i all) t) ends (omega (arith, small, counted_within all t i inside)) short was (may_at all i change t inside is may)
    (each_at (λ x. AreStorable (values_added x)) all i change inside is storable) in
    let e = c.in_err-change_row.field-0.0 in
    change_passed start end e c.from_residual.result c.from_residual.ensures.1 (change_after start mid end end e survives.counts (omega arith) survives.limit cause)
