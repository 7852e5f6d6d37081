use Rattle.docket_tables.proofs.ChangeCauses.{fault_read, reading_told}
use Rattle.docket_tables.proofs.CauseLemmas.{number_suits}
use Rattle.std.proofs.Common.{◌∙◌, ◌==◌, arith}
use Rattle.sqlite.specs.Held.{state}
use Rattle.sqlite.specs.State.{HasCleanDisk}
use Rattle.docket_tables.specs.Contents.{rows_with}
use Rattle.docket_tables.proofs.AnyLemmas.{still_read}
use Rattle.docket_tables.proofs.InsideLemmas.{failed_after, read_inside}
use Rattle.std.proofs.Common.{ap, sym, subst, filter}
use Rattle.std.specs.List.Sorted.{IsNonDecreasingBy}
use Rattle.docket_history.specs.declared.row.ActRow.{ActRow}
use Rattle.docket_columns.specs.Fits.{IsActRow}
use Rattle.docket_tables.proofs.CaseActs.{in_turn, in_turn_of, in_turn_rises, in_turn_all, answered_in_turn}
use Rattle.docket_tables.proofs.ReadLemmas.{read_as}
use Rattle.docket_tables.proofs.inside.acts_of_case.Goals as goal

pub returns-in_err-rows-clause-inside : goal.returns-in_err-rows-clause-inside
returns-in_err-rows-clause-inside g c court t ends orderly =
    let old = state g.S.Store c.args.tx.now.conn.now in
    let new = state g.S.Store c.ask_inside.new.tx.conn.now in
    let rows = rows_with court t ends in
    failed_after old new rows rows c.from_residual.result _ (λ sees. c.ask_inside.ensures.inside rows sees) c.from_residual.ensures.0

pub returns-clause-inside : goal.returns-clause-inside
returns-clause-inside g c court t ends orderly sees =
    let old = state g.S.Store c.args.tx.now.conn.now in
    let rows = rows_with court t ends in
    let k = c.args.case in (
      c.in_ok-rows.ensures.inside rows sees,
      λ clean.
          let before : HasCleanDisk old = omega (arith, c.ask_inside.ensures.clean) in
          let asked = c.in_ok-rows.ensures.ok clean rows (sees before) in
          let answer = rw c.to_sql.ensures at asked.1 in
          let shown = c.in_ok-rows.rows.items in
          let runs = orderly.acts_run k in
          read_inside c.all_in.result _ _
          (read_as _ _ c.all_in.result (λ found are. (
            λ n. ap (λ xs. filter (λ row. row.deadline == n) xs) are ∙ in_turn_of k t.acts runs n,
            subst (IsNonDecreasingBy (λ (row : ActRow). row.deadline)) (sym are) (in_turn_rises k t.acts runs),
          ))
          (c.all_in.ensures.read (in_turn k t.acts runs) (in_turn_all k t.acts runs IsActRow orderly.acts) (c.as_slice.ensures.value ∙ answered_in_turn k t.acts runs shown answer))) asked.0,
    )

pub returns-in_err-rows-clause-still : goal.returns-in_err-rows-clause-still
returns-in_err-rows-clause-still g c rows =
    failed_after (state g.S.Store c.args.tx.now.conn.now) (state g.S.Store c.ask_inside.new.tx.conn.now) rows rows c.from_residual.result _ (λ sees. c.ask_inside.ensures.inside rows sees) c.from_residual.ensures.0

pub returns-clause-still : goal.returns-clause-still
returns-clause-still g c rows sees =
    let before : HasCleanDisk (state g.S.Store c.ask_inside.new.tx.conn.now) → HasCleanDisk (state g.S.Store c.args.tx.now.conn.now) = λ clean. omega (arith, c.ask_inside.ensures.clean) in
    (c.in_ok-rows.ensures.inside rows sees, λ clean. still_read c.all_in.result _ (c.in_ok-rows.ensures.ok clean rows (sees (before clean))).0)

pub returns-in_err-rows-clause-cause : goal.returns-in_err-rows-clause-cause
returns-in_err-rows-clause-cause g c clean court t ends orderly sees =
    reading_told (state g.S.Store c.args.tx.now.conn.now) (state g.S.Store c.ask_inside.new.tx.conn.now) c.in_err-rows.field-0.0 c.from_residual.result c.from_residual.ensures.1
    (c.in_err-rows.ensures.cause clean (rows_with court t ends) sees (number_suits c.to_sql.ensures))

pub returns-clause-cause : goal.returns-clause-cause
returns-clause-cause g c clean court t ends orderly sees =
    let old = state g.S.Store c.args.tx.now.conn.now in
    let new = state g.S.Store c.ask_inside.new.tx.conn.now in
    let asked = c.in_ok-rows.ensures.ok clean (rows_with court t ends) sees in
    let k = c.args.case in
    let answer = rw c.to_sql.ensures at asked.1 in
    let shown = c.in_ok-rows.rows.items in
    let runs = orderly.acts_run k in
    fault_read old new _ c.all_in.result (c.all_in.ensures.read (in_turn k t.acts runs) (in_turn_all k t.acts runs IsActRow orderly.acts) (c.as_slice.ensures.value ∙ answered_in_turn k t.acts runs shown answer))
