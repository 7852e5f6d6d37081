use Rattle.std.proofs.Common.{◌≡◌, ◌+◌, ◌++◌, drop}
use Rattle.court_days.specs.Court.{zone_of}
use Rattle.docket_decisions.specs.EndRows.{ends_running, changes_from}
use Rattle.docket_decisions.proofs.end_row.changes_of_case.Given as goal

abbrev pub invariant-loop-deadline : goal.invariant-loop-deadline
invariant-loop-deadline l = record {
  counted : l.number ≡ 1 + l.deadline-index;
  rest : l.changes.items ++ changes_from l.case l.number (ends_running (zone_of l.court) l.calendar (drop l.deadline-index l.deadlines)) l.rest
      ≡ changes_from l.case 1 (ends_running (zone_of l.court) l.calendar l.deadlines) l.fn.stored;
}
