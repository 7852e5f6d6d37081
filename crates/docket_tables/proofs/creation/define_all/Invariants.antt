use Rattle.std.proofs.Common.{◌≡◌}
use Rattle.sqlite.specs.State.{HasCleanDisk}
use Rattle.sqlite.specs.Held.{state}
use Rattle.docket_tables.specs.Creation.{IsMade}
use Rattle.docket_tables.specs.Stands.{StaysInside}
use Rattle.docket_tables.proofs.MakingCauses.{StaysBegun}
use Rattle.docket_tables.proofs.creation.define_all.Given as goal

abbrev pub invariant-tables : goal.invariant-tables
invariant-tables g l =
    (l.tx.conn.ghost_name ≡ l.fn.tx.conn.ghost_name) × StaysInside (state g.S.Store l.fn.tx.conn.now) (state g.S.Store l.tx.conn.now)
    × (HasCleanDisk (state g.S.Store l.tx.conn.now) → IsMade (state g.S.Store l.fn.tx.conn.now) 0 → IsMade (state g.S.Store l.tx.conn.now) l.number)
    × (HasCleanDisk (state g.S.Store l.tx.conn.now) → IsMade (state g.S.Store l.fn.tx.conn.now) 0 → StaysBegun (state g.S.Store l.fn.tx.conn.now) (state g.S.Store l.tx.conn.now))
