use Rattle.std.proofs.Common.{◌≡◌, take}
use Rattle.docket_history.specs.Histories.{entries_of_case}
use Rattle.docket_plain.proofs.reading.entries_of.Given as goal

abbrev pub invariant-loop-row : goal.invariant-loop-row
invariant-loop-row l = l.found.items ≡ entries_of_case l.case (take l.row-index l.rows)
