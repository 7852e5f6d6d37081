use Rattle.std.proofs.Common.{◌≡◌, drop}
use Rattle.docket_questions.specs.Prospects.{deadline_added}
use Rattle.docket_questions.proofs.prospect.deadline_added.Given as goal

abbrev pub invariant-loop-change : goal.invariant-loop-change
invariant-loop-change l = deadline_added l.case l.number l.changes ≡ deadline_added l.case l.number (drop l.change-index l.changes)
