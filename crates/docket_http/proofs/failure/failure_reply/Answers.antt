use Rattle.std.proofs.Common.{◌∙◌, sym}
use Rattle.docket_http.specs.Asking.{problem_of_fault}
use Rattle.docket_http.proofs.FailureLemmas.{fixed_to, shown_to}
use Rattle.docket_http.proofs.failure.failure_reply.Goals as goal

pub returns-in-true : goal.returns-in-true
returns-in-true c = shown_to c.args.wish.now c.failure_of.result (problem_of_fault c.args.fault) (sym c.is_of_pages.ensures ∙ c.in-true.is) c.failure_of.ensures

pub returns-in-false : goal.returns-in-false
returns-in-false c = fixed_to c.args.wish.now c.problem_of.result (problem_of_fault c.args.fault) (sym c.is_of_pages.ensures ∙ c.in-false.is) c.problem_of.ensures
