use Rattle.std.proofs.Common.{◌≡◌, ◌+◌, ◌++◌, map, drop}
use Rattle.docket_history.specs.Histories.{first_acts_from}
use Rattle.docket_history.specs.declared.row.Change.TheVariants.{AddAct}
use Rattle.docket_decisions.proofs.changes.push_first_acts.Given as goal

abbrev pub invariant-loop-new : goal.invariant-loop-new
invariant-loop-new l = record {
  counted : l.number ≡ l.first + l.new-index;
  rest : l.changes.items ++ map AddAct (first_acts_from l.case l.number (drop l.new-index l.made)) ≡ l.fn.changes.items ++ map AddAct (first_acts_from l.case l.first l.made);
}
