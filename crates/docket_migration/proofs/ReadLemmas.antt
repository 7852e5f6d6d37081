-- What the statement of a table shows.
use Rattle.std.proofs.Common.{◌≡◌, List, [], subst, sym}
use Rattle.sqlite.specs.Effect.{Database, Reads}
use Rattle.sqlite.specs.Listing.{understood}
use Rattle.sqlite.specs.Order.{Row}
use Rattle.sqlite.specs.State.{State}
use Rattle.sqlite_resolve.specs.declared.compiled.Compiled.{Compiled}
use Rattle.std.specs.Prelude.{Ok}
use Rattle.docket_scan.specs.Scans.{AreRowsOf}
use Rattle.docket_tables.specs.Texts.{scan_text}
use Rattle.docket_tables.specs.declared.table.Table.{Table}

-- the same database under another state holds the same rows
pub rows_again : (t : Table) (s u : State) (rows : List Row) → u.now ≡ s.now → AreRowsOf t s rows → AreRowsOf t u rows
rows_again t s u rows same = subst (λ (d : Database). (c : Compiled) × (understood d.schema (scan_text t) ≡ Ok c) × Reads c.command d [] rows) (sym same)
