use Rattle.std.proofs.Common.{◌≡◌, take}
use Rattle.docket_history.specs.Histories.{items_of}
use Rattle.docket_questions.proofs.calendar.items_of.Given as goal

abbrev pub invariant-loop-row : goal.invariant-loop-row
invariant-loop-row l = l.items.items ≡ items_of (take l.row-index l.rows)
