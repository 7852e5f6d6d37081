use Rattle.std.proofs.lemmas.Result.{IfErr-weaker}
use Rattle.docket_orderly.proofs.AdditionLemmas.{receive_after}
use Rattle.docket_tables.proofs.AdditionLemmas.{receipt_may}
use Rattle.docket_tables.proofs.ChangeCauses.{change_after, change_passed, row_caused}
use Rattle.std.proofs.Common.{arith, refl}
use Rattle.sqlite.specs.Held.{state}
use Rattle.docket_decisions.specs.Tables.{Tables, all_changed, with_receipt}
use Rattle.docket_history.specs.declared.row.Receipt.{Receipt}
use Rattle.docket_columns.specs.Cells.{receipt_cells}
use Rattle.docket_tables.specs.AnyRows.{all_rows_changed, recorded}
use Rattle.docket_tables.specs.Contents.{rows_with}
use Rattle.docket_tables.specs.declared.table.Table.TheVariants.{Receipts}
use Rattle.docket_tables.proofs.CommitLemmas.{inside_then}
use Rattle.docket_tables.proofs.ContentsLemmas.{receipt_added, row_inserted}
use Rattle.docket_tables.proofs.changing.change_with_receipt.Goals as goal

pub returns-clause-inside : goal.returns-clause-inside
returns-clause-inside g c = inside_then _ _ _ c.change_all.ensures.inside c.insert.ensures.inside

pub returns-clause-ok : goal.returns-clause-ok
returns-clause-ok g c clean court t ends small sees =
    let last = state g.S.Store c.insert.new.tx.conn.now in
    let receipt : Receipt = record { command = c.args.command.now; reply = c.args.changes.now.reply } in
    let values = c.receipt_values.ensures.receipt c.requires in
    let then : Tables = all_changed c.args.changes.now.rows.items t in
    let old = state g.S.Store c.change_all.new.tx.conn.now in
    let changed = rw c.as_slice.ensures.value at (c.in_ok-change_all.ensures.ok (omega (arith, c.insert.ensures.inside.survives.clean)) court t ends) in
    row_inserted c.insert.result old last Receipts _ (receipt_cells receipt) (rows_with court then ends) (rows_with court (with_receipt c.args.command.now c.args.changes.now.reply then) ends) values refl
    (receipt_added court then ends receipt) (c.insert.ensures.ok clean) (changed small sees)

pub returns-clause-any : goal.returns-clause-any
returns-clause-any g c clean court n stored rows are small sees =
    let last = state g.S.Store c.insert.new.tx.conn.now in
    let receipt : Receipt = record { command = c.args.command.now; reply = c.args.changes.now.reply } in
    let values = c.receipt_values.ensures.receipt c.requires in
    let changes = c.args.changes.now.rows.items in
    let old = state g.S.Store c.change_all.new.tx.conn.now in
    let changed = rw c.as_slice.ensures.value at (c.in_ok-change_all.ensures.any (omega (arith, c.insert.ensures.inside.survives.clean)) court n stored rows are) in
    row_inserted c.insert.result old last Receipts _ (receipt_cells receipt) (all_rows_changed court n changes rows) (recorded court n c.args.command.now c.args.changes.now.reply changes rows) values refl
    (λ other. refl) (c.insert.ensures.ok clean) (changed small sees)

pub returns-in_err-change_all-clause-cause : goal.returns-in_err-change_all-clause-cause
returns-in_err-change_all-clause-cause g c clean court t ends small short sees may receive storable kept =
    let old = state g.S.Store c.args.tx.now.conn.now in
    let new = state g.S.Store c.change_all.new.tx.conn.now in
    change_passed old new c.in_err-change_all.field-0.0 c.from_residual.result c.from_residual.ensures.1 (rw c.as_slice.ensures.value at (c.in_err-change_all.ensures.cause clean court t ends) small short sees may storable)

pub returns-clause-cause : goal.returns-clause-cause
returns-clause-cause g c clean court t ends small short sees may receive storable kept =
    let start = state g.S.Store c.args.tx.now.conn.now in
    let mid = state g.S.Store c.change_all.new.tx.conn.now in
    let last = state g.S.Store c.insert.new.tx.conn.now in
    let receipt : Receipt = record { command = c.args.command.now; reply = c.args.changes.now.reply } in
    let values = c.receipt_values.ensures.receipt c.requires in
    let then : Tables = all_changed c.args.changes.now.rows.items t in
    let changed = rw c.as_slice.ensures.value at (c.in_ok-change_all.ensures.ok (omega (arith, clean, c.insert.ensures.inside.survives.clean)) court t ends) in
    let survives = c.change_all.ensures.inside.survives in
    IfErr-weaker c.insert.result _ _ (λ e h. change_after start mid last last e survives.counts (omega arith) survives.limit h)
    (row_caused c.insert.result mid last Receipts _ (receipt_cells receipt) (rows_with court then ends) values refl
    (receipt_may court then ends c.args.command.now c.args.changes.now.reply (receive_after c.args.command.now c.args.changes.now.rows.items t receive) kept) (changed small sees) (c.insert.ensures.cause clean))
