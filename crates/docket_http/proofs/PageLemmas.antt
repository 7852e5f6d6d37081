-- A page on the day of its request.
use Rattle.std.proofs.Common.{◌≡◌, ◌∙◌, IsTrue, ℕ, List, Result, refl, ap, subst}
use Rattle.sqlite.specs.Store.{Ghosts}
use Rattle.court_days.specs.Court.{CourtSettings}
use Rattle.docket_history.specs.Histories.{History}
use Rattle.docket_applying.specs.Applying.{Asks, Stands}
use Rattle.docket_applying.specs.Dockets.{Docket}
use Rattle.docket_applying.specs.declared.fault.Fault.{Fault}
use Rattle.docket_store.specs.Asking.{OnlyAnswers}
use Rattle.http_request.specs.declared.page.Page.{Page}
use Rattle.http_request.specs.declared.wish.Wish.TheVariants.{Page as PageWish}
use Rattle.docket_http.specs.Answer.{found, problem_page}
use Rattle.docket_http.specs.Asking.{IsClosedPage, asks_for_page, text_on}
use Rattle.docket_http.specs.Moments.{day_of_request}
use Rattle.docket_http.specs.Recorded.{RepliesTo}
use Rattle.docket_http.specs.Reply.{IsReply}
use Rattle.docket_http.specs.declared.head.Form.TheVariants.{Html}
use Rattle.docket_http.specs.declared.problem.Problem.TheVariants.{Closed}
use Rattle.docket_http.specs.declared.reply.Reply.{Reply}
use Rattle.docket_http.proofs.OnlyLemmas.{question}

-- a question whose answer is a page, asked on a day that is that of the request by the docket's court
pub shown : {S : Type 0} {court : CourtSettings} (g : Ghosts S) (old now : Docket S) (asked page : Page) (fresh day : ℕ) (body : List ℕ) (r : Result Reply Fault)
    → court ≡ old.court → day ≡ day_of_request court fresh → asked ≡ page → IsTrue (asks_for_page page) → IsClosedPage page fresh (problem_page Closed) → OnlyAnswers g old now r
    → ((h : History) → Stands g old h → Asks g now h (λ reply. IsReply reply (found Html (text_on old.court h day fresh page))) r)
    → RepliesTo g old now (PageWish asked fresh) body r
shown g old now asked page fresh day body r own on same asks closed only answer =
    question g old now (PageWish asked fresh) (PageWish page fresh) body r (ap (λ p. PageWish p fresh) same) refl asks refl closed only
    (λ h stands. subst (λ (d : ℕ). Asks g now h (λ reply. IsReply reply (found Html (text_on old.court h d fresh page))) r)
    (on ∙ ap (λ c. day_of_request c fresh) own) (answer h stands))
