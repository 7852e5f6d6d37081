use Rattle.std.proofs.Common.{◌≡◌, ◌+◌, ◌++◌, drop}
use Rattle.docket_history.specs.Records.{lines_from}
use Rattle.docket_history.proofs.case_lines.deadline_lines.Given as goal

abbrev pub invariant-loop-deadline : goal.invariant-loop-deadline
invariant-loop-deadline l = record {
  counted : l.number ≡ 1 + l.deadline-index;
  rest : l.lines.items ++ lines_from l.court l.calendar l.number (drop l.deadline-index l.deadlines)
      ≡ lines_from l.court l.calendar 1 l.deadlines;
}
