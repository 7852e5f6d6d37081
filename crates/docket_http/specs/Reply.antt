-- What a reply is in bytes.
use Rattle.std.specs.Prelude.{◌≡◌, ℕ, List, ◌++◌, string_bytes}
use Rattle.docket_http.specs.Answer.{Response, response_bytes, problem_page, problem_response, problem_status}
use Rattle.docket_http.specs.declared.failure.Failure.{Failure}
use Rattle.docket_http.specs.declared.failure.Failure.TheVariants as failure
use Rattle.docket_http.specs.declared.problem.Problem.{Problem}
use Rattle.docket_http.specs.declared.problem.Problem.TheVariants.{Closed, Damaged, NoCopy, NoMemory, Store}
use Rattle.docket_http.specs.declared.reply.Reply.{Reply}
use Rattle.docket_http.specs.declared.reply.Reply.TheVariants.{Built, File, Fixed, Shown}

-- the problem that a failure is
abbrev pub problem_of_failure : Failure → Problem
problem_of_failure failure.NoCopy = NoCopy
problem_of_failure failure.NoMemory = NoMemory
problem_of_failure failure.Store = Store
problem_of_failure failure.Closed = Closed
problem_of_failure failure.Damaged = Damaged

abbrev pub reply_bytes : Reply → List ℕ
reply_bytes (Built status head body) = string_bytes head ++ string_bytes body
reply_bytes (File head body) = string_bytes head ++ body.items
reply_bytes (Fixed problem) = response_bytes (problem_response problem)
reply_bytes (Shown failure) = response_bytes (problem_page (problem_of_failure failure))

abbrev pub reply_status : Reply → ℕ
reply_status (Built status head body) = status
reply_status (File head body) = 200
reply_status (Fixed problem) = problem_status problem
reply_status (Shown failure) = problem_status (problem_of_failure failure)

-- the reply is this answer
abbrev pub IsReply : Reply → Response → Type 0
IsReply reply response = (reply_bytes reply ≡ response_bytes response) × (reply_status reply ≡ response.status)
