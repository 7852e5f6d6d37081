use Rattle.docket_decisions.specs.Additions.{AddsOnce, AddsAmong}
use Rattle.docket_orderly.specs.Additions.{HasDeadline}
use Rattle.docket_applying.specs.Writing.{MayAddEnds}
use Rattle.std.proofs.Common.{List, ap, sym, subst}
use Rattle.sqlite.specs.Held.{state}
use Rattle.docket_decisions.specs.EndRows.{all_changed_ends}
use Rattle.docket_decisions.specs.declared.end_row.StoredEnd.{StoredEnd}
use Rattle.docket_tables.specs.AnyRows.{with_stored}
use Rattle.docket_tables.specs.Contents.{rows_with}
use Rattle.docket_applying.specs.Settling.{MayLeave, MayUpdate, updated_ends}
use Rattle.docket_tables.specs.Stands.{Inside}
use Rattle.docket_applying.proofs.settling.update_ends.Goals as goal

pub returns-in-Moves-clause-inside : goal.returns-in-Moves-clause-inside
returns-in-Moves-clause-inside g c t ends may =
    let court = c.args.court.now in
    let old = state g.S.Store c.args.tx.now.conn.now in
    let new = state g.S.Store c.change_ends.new.tx.conn.now in
    subst (λ u. Inside old new (rows_with court t ends) (rows_with court t (updated_ends court u t ends)) c.change_ends.result (λ _. Unit {0})) (sym c.in-Moves.is)
    (subst (λ xs. Inside old new (rows_with court t ends) (rows_with court t (all_changed_ends xs ends)) c.change_ends.result (λ _. Unit {0})) c.as_slice.ensures.value (c.change_ends.ensures.inside court t ends))

pub returns-in-Calendar-clause-inside : goal.returns-in-Calendar-clause-inside
returns-in-Calendar-clause-inside g c t ends may =
    let court = c.args.court.now in
    let old = state g.S.Store c.args.tx.now.conn.now in
    let new = state g.S.Store c.settle_by_rows.new.tx.conn.now in
    let asked = subst (λ u. MayUpdate court u t ends) c.in-Calendar.is may in
    subst (λ u. Inside old new (rows_with court t ends) (rows_with court t (updated_ends court u t ends)) c.settle_by_rows.result (λ _. Unit {0})) (sym c.in-Calendar.is)
    (c.settle_by_rows.ensures.inside t ends asked.0 asked.1 asked.2)

pub returns-in-Moves-clause-any : goal.returns-in-Moves-clause-any
returns-in-Moves-clause-any g c stored rows =
    let old = state g.S.Store c.args.tx.now.conn.now in
    let new = state g.S.Store c.change_ends.new.tx.conn.now in
    subst (λ u. (next : List StoredEnd) × MayLeave u stored next × Inside old new (with_stored stored rows) (with_stored next rows) c.change_ends.result (λ _. Unit {0})) (sym c.in-Moves.is)
    (all_changed_ends c.as_slice.result.now stored, ap (λ xs. all_changed_ends xs stored) c.as_slice.ensures.value, c.change_ends.ensures.any stored rows)

pub returns-in-Calendar-clause-any : goal.returns-in-Calendar-clause-any
returns-in-Calendar-clause-any g c stored rows =
    let old = state g.S.Store c.args.tx.now.conn.now in
    let new = state g.S.Store c.settle_by_rows.new.tx.conn.now in
    let settled = c.settle_by_rows.ensures.any stored rows in
    subst (λ u. (next : List StoredEnd) × MayLeave u stored next × Inside old new (with_stored stored rows) (with_stored next rows) c.settle_by_rows.result (λ _. Unit {0})) (sym c.in-Calendar.is)
    (settled.0, tt, settled.1)

pub returns-in-Moves-clause-cause : goal.returns-in-Moves-clause-cause
returns-in-Moves-clause-cause g c clean t ends may adds sound sees =
    let asked = subst (λ u. MayAddEnds u t ends) c.in-Moves.is adds in
    let is = c.as_slice.ensures.value in
    c.change_ends.ensures.cause clean c.args.court.now t ends sees (subst (λ xs. AddsOnce xs ends) (sym is) asked.0) (subst (AddsAmong (HasDeadline t)) (sym is) asked.1)

pub returns-in-Calendar-clause-cause : goal.returns-in-Calendar-clause-cause
returns-in-Calendar-clause-cause g c clean t ends may adds sound sees =
    let asked = subst (λ u. MayUpdate c.args.court.now u t ends) c.in-Calendar.is may in
    c.settle_by_rows.ensures.cause clean t ends asked.0 sound asked.1 asked.2 sees
