use Rattle.std.proofs.Common.{◌≡◌, ◌++◌, take}
use Rattle.docket_history.specs.Histories.{acts_of_deadline}
use Rattle.docket_questions.proofs.prospect.push_acts.Given as goal

abbrev pub invariant-loop-other : goal.invariant-loop-other
invariant-loop-other l = l.acts.items ≡ l.fn.acts.items ++ acts_of_deadline l.row.case l.row.deadline (take l.other-index l.rows)
