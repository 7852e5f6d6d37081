use Rattle.std.proofs.Common.{subst, [], ◌∷◌, inl, Err}
use Rattle.docket_orderly.specs.Additions.{HasDeadline}
use Rattle.docket_decisions.specs.Additions.{AddsOnce, AddsAmong}
use Rattle.docket_tables.proofs.ChangeCauses.{fault_told, row_caused}
use Rattle.docket_tables.proofs.AdditionLemmas.{end_may}
use Rattle.std.proofs.Common.{◌∙◌, Ok, refl, ap, sym, arith}
use Rattle.sqlite.specs.Held.{state}
use Rattle.sqlite.specs.State.{HasCleanDisk}
use Rattle.docket_decisions.specs.EndRows.{changed_ends}
use Rattle.docket_columns.specs.Cells.{end_cells}
use Rattle.docket_decisions.specs.declared.end_row.EndChange.TheVariants.{Move}
use Rattle.docket_tables.specs.AnyRows.{with_stored}
use Rattle.docket_tables.specs.Contents.{rows_with}
use Rattle.docket_tables.specs.declared.fault.ReadFault.{ReadFault}
use Rattle.docket_tables.specs.declared.table.Table.TheVariants.{Due}
use Rattle.docket_tables.proofs.AnyLemmas.{stored_added, stored_anew}
use Rattle.docket_tables.proofs.ContentsLemmas.{end_added, row_inserted, sees_same, with_ends}
use Rattle.docket_tables.proofs.EndLemmas.{kept_ends}
use Rattle.docket_tables.proofs.changing.change_end.Goals as goal

pub returns-in_ok-insert-in-Add-clause-inside : goal.returns-in_ok-insert-in-Add-clause-inside
returns-in_ok-insert-in-Add-clause-inside g c court t ends sees =
    let old = state g.S.Store c.args.tx.now.conn.now in
    let new = state g.S.Store c.insert.new.tx.conn.now in
    let row = c.in-Add.row in (
      c.insert.ensures.inside,
      λ clean.
          let before : HasCleanDisk old = omega (arith, c.insert.ensures.inside.survives.clean) in (
            row_inserted {E = ReadFault} (Ok c.in_ok-insert-in-Add.field-0) old new Due _ (end_cells row) (rows_with court t ends) (rows_with court t (changed_ends c.args.change.now ends)) c.end_values.ensures refl
                (λ other. end_added court t ends row other ∙ ap (λ x. rows_with court t (changed_ends x ends) other) (sym c.in-Add.is)) (c.in_ok-insert-in-Add.ensures.ok clean) (sees before),
            tt,
          ),
    )

pub returns-in_ok-remove_end-in-Remove-clause-inside : goal.returns-in_ok-remove_end-in-Remove-clause-inside
returns-in_ok-remove_end-in-Remove-clause-inside g c court t ends sees =
    let old = state g.S.Store c.args.tx.now.conn.now in
    let new = state g.S.Store c.remove_end.new.tx.conn.now in (
      c.remove_end.ensures.inside,
      λ clean.
          let before : HasCleanDisk old = omega (arith, c.remove_end.ensures.inside.survives.clean) in (
            sees_same new _ (rows_with court t (changed_ends c.args.change.now ends))
                (λ other. with_ends court t ends _ _ (kept_ends c.in-Remove.case c.in-Remove.deadline ends) other ∙ ap (λ x. rows_with court t (changed_ends x ends) other) (sym c.in-Remove.is))
                (c.in_ok-remove_end-in-Remove.ensures.ok clean (rows_with court t ends) (sees before)),
            tt,
          ),
    )

pub returns-in_ok-move_end-in-Move-clause-inside : goal.returns-in_ok-move_end-in-Move-clause-inside
returns-in_ok-move_end-in-Move-clause-inside g c court t ends sees =
    let old = state g.S.Store c.args.tx.now.conn.now in
    let new = state g.S.Store c.move_end.new.tx.conn.now in
    let row = c.in-Move.row in (
      c.move_end.ensures.inside,
      λ clean.
          let before : HasCleanDisk old = omega (arith, c.move_end.ensures.inside.survives.clean) in (
            sees_same new _ (rows_with court t (changed_ends c.args.change.now ends))
                (λ other. with_ends court t ends (changed_ends (Move row) ends) _ refl other ∙ ap (λ x. rows_with court t (changed_ends x ends) other) (sym c.in-Move.is))
                (c.in_ok-move_end-in-Move.ensures.ok clean ends (rows_with court t ends) refl (sees before)),
            tt,
          ),
    )

pub returns-in_ok-insert-in-Add-clause-any : goal.returns-in_ok-insert-in-Add-clause-any
returns-in_ok-insert-in-Add-clause-any g c stored rows sees =
    let old = state g.S.Store c.args.tx.now.conn.now in
    let new = state g.S.Store c.insert.new.tx.conn.now in
    let row = c.in-Add.row in (
      c.insert.ensures.inside,
      λ clean.
          let before : HasCleanDisk old = omega (arith, c.insert.ensures.inside.survives.clean) in (
            row_inserted {E = ReadFault} (Ok c.in_ok-insert-in-Add.field-0) old new Due _ (end_cells row) (with_stored stored rows) (with_stored (changed_ends c.args.change.now stored) rows) c.end_values.ensures refl
                (λ other. stored_added row stored rows other ∙ ap (λ x. with_stored (changed_ends x stored) rows other) (sym c.in-Add.is)) (c.in_ok-insert-in-Add.ensures.ok clean) (sees before),
            tt,
          ),
    )

pub returns-in_ok-remove_end-in-Remove-clause-any : goal.returns-in_ok-remove_end-in-Remove-clause-any
returns-in_ok-remove_end-in-Remove-clause-any g c stored rows sees =
    let old = state g.S.Store c.args.tx.now.conn.now in
    let new = state g.S.Store c.remove_end.new.tx.conn.now in (
      c.remove_end.ensures.inside,
      λ clean.
          let before : HasCleanDisk old = omega (arith, c.remove_end.ensures.inside.survives.clean) in (
            sees_same new _ (with_stored (changed_ends c.args.change.now stored) rows)
                (λ other. stored_anew stored _ _ rows (kept_ends c.in-Remove.case c.in-Remove.deadline stored) other ∙ ap (λ x. with_stored (changed_ends x stored) rows other) (sym c.in-Remove.is))
                (c.in_ok-remove_end-in-Remove.ensures.ok clean (with_stored stored rows) (sees before)),
            tt,
          ),
    )

pub returns-in_ok-move_end-in-Move-clause-any : goal.returns-in_ok-move_end-in-Move-clause-any
returns-in_ok-move_end-in-Move-clause-any g c stored rows sees =
    let old = state g.S.Store c.args.tx.now.conn.now in
    let new = state g.S.Store c.move_end.new.tx.conn.now in
    let row = c.in-Move.row in (
      c.move_end.ensures.inside,
      λ clean.
          let before : HasCleanDisk old = omega (arith, c.move_end.ensures.inside.survives.clean) in (
            sees_same new _ (with_stored (changed_ends c.args.change.now stored) rows)
                (λ other. stored_anew stored (changed_ends (Move row) stored) _ rows refl other ∙ ap (λ x. with_stored (changed_ends x stored) rows other) (sym c.in-Move.is))
                (c.in_ok-move_end-in-Move.ensures.ok clean stored (with_stored stored rows) refl (sees before)),
            tt,
          ),
    )

pub returns-in_err-insert-in-Add-clause-cause : goal.returns-in_err-insert-in-Add-clause-cause
returns-in_err-insert-in-Add-clause-cause g c clean court t ends sees once among =
    let old = state g.S.Store c.args.tx.now.conn.now in
    let new = state g.S.Store c.insert.new.tx.conn.now in
    let row = c.in-Add.row in
    let alone = subst (λ x. AddsOnce (x ∷ []) ends) c.in-Add.is once in
    let stands = subst (λ x. AddsAmong (HasDeadline t) (x ∷ [])) c.in-Add.is among in
    let e = c.in_err-insert-in-Add.field-0.0 in
    fault_told old new e c.from_residual.result c.from_residual.ensures.1
    (row_caused {X = Unit {0}} (Err e) old new Due _ (end_cells row) (rows_with court t ends) c.end_values.ensures refl (end_may court t ends row alone.0 stands.0 c.end_fits.ensures) sees (c.in_err-insert-in-Add.ensures.cause clean))

pub returns-in_err-remove_end-in-Remove-clause-cause : goal.returns-in_err-remove_end-in-Remove-clause-cause
returns-in_err-remove_end-in-Remove-clause-cause g c clean court t ends sees once among =
    let old = state g.S.Store c.args.tx.now.conn.now in
    let new = state g.S.Store c.remove_end.new.tx.conn.now in
    fault_told old new c.in_err-remove_end-in-Remove.field-0.0 c.from_residual-in_err-remove_end-in-Remove.result c.from_residual-in_err-remove_end-in-Remove.ensures.1 (inl (c.in_err-remove_end-in-Remove.ensures.cause clean (rows_with court t ends) sees))

pub returns-in_err-move_end-in-Move-clause-cause : goal.returns-in_err-move_end-in-Move-clause-cause
returns-in_err-move_end-in-Move-clause-cause g c clean court t ends sees once among =
    let old = state g.S.Store c.args.tx.now.conn.now in
    let new = state g.S.Store c.move_end.new.tx.conn.now in
    fault_told old new c.in_err-move_end-in-Move.field-0.0 c.from_residual-in_err-move_end-in-Move.result c.from_residual-in_err-move_end-in-Move.ensures.1 (c.in_err-move_end-in-Move.ensures.cause clean (rows_with court t ends) sees)
