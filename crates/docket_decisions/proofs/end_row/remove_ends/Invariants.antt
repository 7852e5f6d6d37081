use Rattle.std.proofs.Common.{◌≡◌, ◌++◌, map, take}
use Rattle.docket_decisions.specs.declared.end_row.EndChange.TheVariants.{Remove}
use Rattle.docket_decisions.proofs.end_row.remove_ends.Given as goal

abbrev pub invariant-loop-row : goal.invariant-loop-row
invariant-loop-row l = l.changes.items ≡ l.initial.changes.items ++ map (λ row. Remove row.case row.deadline) (take l.row-index l.rows)
