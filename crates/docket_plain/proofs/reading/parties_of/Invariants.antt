use Rattle.std.proofs.Common.{◌≡◌, take}
use Rattle.docket_history.specs.Histories.{parties_of_case}
use Rattle.docket_plain.proofs.reading.parties_of.Given as goal

abbrev pub invariant-loop-row : goal.invariant-loop-row
invariant-loop-row l = l.found.items ≡ parties_of_case l.case (take l.row-index l.rows)
