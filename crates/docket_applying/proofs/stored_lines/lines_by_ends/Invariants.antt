use Rattle.std.proofs.Common.{◌≡◌, ℕ, ◌+◌, ◌++◌, drop}
use Rattle.court_days.specs.Court.{zone_of}
use Rattle.docket_decisions.specs.EndRows.{end_rows_from, end_rows_of, ends_running}
use Rattle.docket_history.specs.Records.{lines_from}
use Rattle.docket_applying.proofs.stored_lines.lines_by_ends.Given as goal

-- where the rows are those of the deadlines' ends, the rows that are left are those of the deadlines that are left
abbrev pub invariant-loop-deadline : goal.invariant-loop-deadline
invariant-loop-deadline l = record {
  counted : l.number ≡ 1 + l.deadline-index;
  rest : (case : ℕ) → l.fn.stored ≡ end_rows_of (zone_of l.court) l.calendar case l.deadlines
      → (l.rest ≡ end_rows_from case l.number (ends_running (zone_of l.court) l.calendar (drop l.deadline-index l.deadlines)))
      × (l.lines.items ++ lines_from l.court l.calendar l.number (drop l.deadline-index l.deadlines) ≡ lines_from l.court l.calendar 1 l.deadlines);
}
