use Rattle.std.proofs.Common.{sym, ap}
use Rattle.std.specs.Fmt.{digits}
use Rattle.docket_http.specs.Answer.{response_bytes, problem_page}
use Rattle.docket_http.specs.Reply.{problem_of_failure}
use Rattle.docket_http.proofs.failure.Failure.page.Goals as goal

pub returns-in-NoCopy : goal.returns-in-NoCopy
unfolding digits
returns-in-NoCopy c = ap (λ f. response_bytes (problem_page (problem_of_failure f))) (sym c.in-NoCopy.is)

pub returns-in-NoMemory : goal.returns-in-NoMemory
unfolding digits
returns-in-NoMemory c = ap (λ f. response_bytes (problem_page (problem_of_failure f))) (sym c.in-NoMemory.is)

pub returns-in-Store : goal.returns-in-Store
unfolding digits
returns-in-Store c = ap (λ f. response_bytes (problem_page (problem_of_failure f))) (sym c.in-Store.is)

pub returns-in-Closed : goal.returns-in-Closed
unfolding digits
returns-in-Closed c = ap (λ f. response_bytes (problem_page (problem_of_failure f))) (sym c.in-Closed.is)

pub returns-in-Damaged : goal.returns-in-Damaged
unfolding digits
returns-in-Damaged c = ap (λ f. response_bytes (problem_page (problem_of_failure f))) (sym c.in-Damaged.is)
