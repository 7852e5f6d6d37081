-- What is sent where the docket gave no reply.
use Rattle.std.proofs.Common.{◌≡◌, Bool, true, false, refl, subst, sym}
use Rattle.http_request.specs.declared.wish.Wish.{Wish}
use Rattle.docket_http.specs.Answer.{problem_page, problem_response, problem_said, problem_status}
use Rattle.docket_http.specs.Asking.{is_of_pages, problem_to}
use Rattle.docket_http.specs.Reply.{IsReply, problem_of_failure}
use Rattle.docket_http.specs.declared.failure.Failure.{Failure}
use Rattle.docket_http.specs.declared.problem.Problem.{Problem}
use Rattle.docket_http.specs.declared.problem.Problem.TheVariants.{Rejected, NoSuchCase, NoCopy, NoMemory, Store, Closed, Damaged}
use Rattle.docket_http.specs.declared.reply.Reply.TheVariants.{Fixed, Shown}

-- a page has the status of its problem
page_status : (p : Problem) → problem_status p ≡ (problem_page p).status
page_status (Rejected rejection) = refl
page_status NoSuchCase = refl
page_status NoCopy = refl
page_status NoMemory = refl
page_status Store = refl
page_status Closed = refl
page_status Damaged = refl

pub shown_to : (wish : Wish) (failure : Failure) (p : Problem) → is_of_pages wish ≡ true → problem_of_failure failure ≡ p → IsReply (Shown failure) (problem_to wish p)
shown_to wish failure p browser is =
    subst (λ (b : Bool). IsReply (Shown failure) (problem_said b p)) (sym browser)
    (subst (λ (q : Problem). IsReply (Shown failure) (problem_page q)) is (refl, page_status (problem_of_failure failure)))

pub fixed_to : (wish : Wish) (q p : Problem) → is_of_pages wish ≡ false → q ≡ p → IsReply (Fixed q) (problem_to wish p)
fixed_to wish q p browser is =
    subst (λ (b : Bool). IsReply (Fixed q) (problem_said b p)) (sym browser)
    (subst (λ (r : Problem). IsReply (Fixed q) (problem_response r)) is (refl, refl))
