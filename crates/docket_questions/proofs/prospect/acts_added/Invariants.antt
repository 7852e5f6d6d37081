use Rattle.std.proofs.Common.{◌≡◌, ◌++◌, drop}
use Rattle.docket_decisions.proofs.AddedActs.{acts_added}
use Rattle.docket_questions.proofs.prospect.acts_added.Given as goal

abbrev pub invariant-loop-change : goal.invariant-loop-change
invariant-loop-change l = l.rows.items ++ acts_added (drop l.change-index l.changes) ≡ acts_added l.changes
