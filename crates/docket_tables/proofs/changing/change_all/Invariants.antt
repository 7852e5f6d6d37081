use Rattle.std.proofs.Common.{◌≡◌, ◌+◌, ◌<◌, ◌^◌, ℕ, List, length, take}
use Rattle.sqlite.specs.State.{HasCleanDisk}
use Rattle.sqlite.specs.Held.{state}
use Rattle.court_days.specs.Court.{CourtSettings}
use Rattle.docket_decisions.specs.Tables.{Tables, all_changed}
use Rattle.docket_decisions.specs.declared.end_row.StoredEnd.{StoredEnd}
use Rattle.docket_tables.specs.AnyRows.{AreDocketRows, all_rows_changed}
use Rattle.docket_tables.specs.Contents.{rows_with}
use Rattle.docket_tables.specs.Layouts.{Rows}
use Rattle.docket_tables.specs.Stands.{StaysInside, Sees}
use Rattle.docket_tables.proofs.changing.change_all.Given as goal

abbrev pub invariant-changes : goal.invariant-changes
invariant-changes g l =
    (l.tx.conn.ghost_name ≡ l.fn.tx.conn.ghost_name) × StaysInside (state g.S.Store l.fn.tx.conn.now) (state g.S.Store l.tx.conn.now)
    × (HasCleanDisk (state g.S.Store l.tx.conn.now) → (court : CourtSettings) (t : Tables) (ends : List StoredEnd) → t.next_row + length l.changes < 2 ^ 63
    → Sees (state g.S.Store l.fn.tx.conn.now) (rows_with court t ends) → Sees (state g.S.Store l.tx.conn.now) (rows_with court (all_changed (take l.change-index l.changes) t) ends))
    × (HasCleanDisk (state g.S.Store l.tx.conn.now) → (court : CourtSettings) (n : ℕ) (stored : List StoredEnd) (rows : Rows) → AreDocketRows court n stored rows → n + length l.changes < 2 ^ 63
    → Sees (state g.S.Store l.fn.tx.conn.now) rows → Sees (state g.S.Store l.tx.conn.now) (all_rows_changed court n (take l.change-index l.changes) rows))
