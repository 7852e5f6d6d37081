use Rattle.std.proofs.Common.{◌≡◌, ◌==◌, ◌<◌, ℕ, List, map, take, filter}
use Rattle.std.specs.List.Sorted.{IsNonDecreasingBy}
use Rattle.docket_history.specs.Histories.{deadlines_from}
use Rattle.docket_history.specs.declared.row.ActRow.{ActRow}
use Rattle.docket_orderly.specs.Orderly.{RunsFrom, acts_on}
use Rattle.docket_tables.specs.Readings.{AreActsOf}
use Rattle.docket_applying.proofs.gathering.with_acts.Given as goal

-- the deadlines so far have their acts, and those of the later ones are left
abbrev pub invariant-loop-row : goal.invariant-loop-row
invariant-loop-row l =
    (k : ℕ) (all : List ActRow) → RunsFrom 1 (map (λ row. row.number) l.deadlines) → AreActsOf k all l.acts
    → (l.found.items ≡ deadlines_from k 1 all (take l.row-index l.deadlines))
    × ((n : ℕ) → l.row-index < n → filter (λ row. row.deadline == n) l.rest ≡ acts_on k n all)
    × IsNonDecreasingBy (λ row. row.deadline) l.rest
