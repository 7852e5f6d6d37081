use Rattle.std.proofs.Common.{◌≡◌, ◌+◌, ◌++◌, length, drop}
use Rattle.docket_history.specs.Histories.{deadlines_from, deadlines_of_case}
use Rattle.docket_plain.proofs.viewing.deadlines_of.Given as goal

abbrev pub invariant-loop-row : goal.invariant-loop-row
invariant-loop-row l =
    l.found.items ++ deadlines_from l.case (length l.found.items + 1) l.tables.acts.items (deadlines_of_case l.case (drop l.row-index l.tables.deadlines.items))
    ≡ deadlines_from l.case 1 l.tables.acts.items (deadlines_of_case l.case l.tables.deadlines.items)
