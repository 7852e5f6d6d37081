use Rattle.std.proofs.Common.{◌≡◌, List, map, take}
use Rattle.std.specs.List.{AllByRecursion}
use Rattle.docket_tables.proofs.rows.all_in.Given as goal

abbrev pub invariant-loop-row : goal.invariant-loop-row
invariant-loop-row g l = (all : List g.row.R.Denot) → AllByRecursion g.R.StoredRow.Is all → l.rows ≡ map g.R.StoredRow.cells all → l.found.items ≡ take l.row-index all
