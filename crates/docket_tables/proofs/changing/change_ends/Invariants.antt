use Rattle.std.proofs.Common.{◌≡◌, ◌≤◌, List, take}
use Rattle.sqlite.specs.Held.{state}
use Rattle.sqlite.specs.View.{doubt}
use Rattle.court_days.specs.Court.{CourtSettings}
use Rattle.docket_decisions.specs.EndRows.{all_changed_ends}
use Rattle.docket_decisions.specs.Tables.{Tables}
use Rattle.docket_decisions.specs.declared.end_row.StoredEnd.{StoredEnd}
use Rattle.docket_tables.specs.AnyRows.{with_stored}
use Rattle.docket_tables.specs.Contents.{rows_with}
use Rattle.docket_tables.specs.Layouts.{Rows}
use Rattle.docket_tables.proofs.InsideLemmas.{Went}
use Rattle.docket_tables.proofs.changing.change_ends.Given as goal

abbrev pub invariant-changes : goal.invariant-changes
invariant-changes g l =
    (l.tx.conn.ghost_name ≡ l.fn.tx.conn.ghost_name)
    × ((court : CourtSettings) (t : Tables) (ends : List StoredEnd)
    → Went (state g.S.Store l.fn.tx.conn.now) (state g.S.Store l.tx.conn.now) (rows_with court t ends) (rows_with court t (all_changed_ends (take l.change-index l.changes) ends)) (Unit {0}))
    × (doubt (state g.S.Store l.fn.tx.conn.now).is_clean ≤ doubt (state g.S.Store l.tx.conn.now).is_clean)
    × ((stored : List StoredEnd) (rows : Rows)
    → Went (state g.S.Store l.fn.tx.conn.now) (state g.S.Store l.tx.conn.now) (with_stored stored rows) (with_stored (all_changed_ends (take l.change-index l.changes) stored) rows) (Unit {0}))
