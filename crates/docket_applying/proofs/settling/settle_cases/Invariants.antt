use Rattle.std.proofs.Common.{◌≡◌, ◌≤◌, ℕ, List}
use Rattle.sqlite.specs.Held.{state}
use Rattle.sqlite.specs.View.{doubt}
use Rattle.docket_decisions.specs.Tables.{Tables}
use Rattle.docket_decisions.specs.declared.end_row.StoredEnd.{StoredEnd}
use Rattle.docket_tables.specs.AnyRows.{with_stored}
use Rattle.docket_tables.specs.Contents.{rows_with, AreStored}
use Rattle.docket_tables.specs.Layouts.{Rows}
use Rattle.docket_orderly.specs.Orderly.{IsOrderly}
use Rattle.docket_applying.specs.Settling.{RunsOnlyWhereStored, settled_cases}
use Rattle.docket_tables.proofs.InsideLemmas.{Went}
use Rattle.docket_applying.proofs.settling.settle_cases.Given as goal

abbrev pub invariant-cases : goal.invariant-cases
invariant-cases g l =
    (l.tx.conn.ghost_name ≡ l.fn.tx.conn.ghost_name)
    × ((t : Tables) (ends : List StoredEnd) → IsOrderly l.court t → ((k : ℕ) → AreStored k ends) → ((k : ℕ) → RunsOnlyWhereStored l.court t ends k)
    → Went (state g.S.Store l.fn.tx.conn.now) (state g.S.Store l.tx.conn.now) (rows_with l.court t ends) (rows_with l.court t (settled_cases l.court l.calendar t l.done ends)) (Unit {0}))
    × (doubt (state g.S.Store l.fn.tx.conn.now).is_clean ≤ doubt (state g.S.Store l.tx.conn.now).is_clean)
    × ((stored : List StoredEnd) (rows : Rows) → (next : List StoredEnd)
    × Went (state g.S.Store l.fn.tx.conn.now) (state g.S.Store l.tx.conn.now) (with_stored stored rows) (with_stored next rows) (Unit {0}))
