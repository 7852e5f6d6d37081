use Rattle.std.proofs.Common.{◌≡◌, ◌++◌, drop}
use Rattle.docket_text.specs.CalendarOrder.{due_rows}
use Rattle.docket_text.proofs.order.due_rows.Given as goal

abbrev pub invariant-loop-line : goal.invariant-loop-line
invariant-loop-line l = l.rows.items ++ due_rows l.case (drop l.line-index l.lines) ≡ due_rows l.case l.lines
