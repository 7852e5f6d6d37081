use Rattle.std.proofs.Common.{◌≡◌, ◌+◌, ◌≤◌, ◌^◌, ◌++◌, length, map, vec_len}
use Rattle.docket_history.specs.Histories.{numbered}
use Rattle.docket_history.specs.declared.row.Change.TheVariants.{AddCalendar}
use Rattle.docket_decisions.proofs.changes.push_calendar.Given as goal

abbrev pub invariant-loop-rows : goal.invariant-loop-rows
invariant-loop-rows l = record {
  rest : l.changes.items ++ map AddCalendar (numbered l.number l.rows.items) ≡ l.initial.changes.items ++ map AddCalendar (numbered l.fn.first l.initial.rows.items);
  fits : l.number + length l.rows.items ≤ 2 ^ 32;
}

abbrev pub decreases-loop-rows : goal.decreases-loop-rows
decreases-loop-rows l = vec_len l.rows
