use Rattle.std.proofs.Common.{◌≡◌, ◌==◌, map, filter, take}
use Rattle.docket_applying.proofs.gathering.acts_among.Given as goal

abbrev pub invariant-loop-row : goal.invariant-loop-row
invariant-loop-row l = l.found.items ≡ map (λ row. row.act) (filter (λ row. row.deadline == l.deadline) (take l.row-index l.rows))
