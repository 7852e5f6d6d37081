-- What a closed docket answers.
use Rattle.std.proofs.Common.{◌≡◌, ◌∙◌, IfOk, IfErr, inl, inr, ℕ, List, Option, Result, Ok, Err, sym, ap, subst}
use Rattle.std.specs.Io.KnownBytes.{Appends}
use Rattle.docket_applying.specs.declared.fault.Fault.{Fault}
use Rattle.docket_applying.specs.declared.fault.Fault.TheVariants as fault
use Rattle.docket_applying.specs.declared.listing.ListingEnd.{ListingEnd}
use Rattle.docket_applying.specs.declared.listing.ListingEnd.TheVariants as listing
use Rattle.line_io.specs.Output.{AppendsFront}
use Rattle.http_request.specs.declared.page.Routes.{Routes}
use Rattle.http_request.specs.declared.wish.Wish.{Wish}
use Rattle.docket_http.specs.Answer.{Response, response_bytes, problem_response, problem_status}
use Rattle.docket_http.specs.Asking.{problem_of_fault, problem_to, IsClosedAnswer, IsClosedReply, RepliesClosed}
use Rattle.docket_http.specs.Reply.{IsReply, reply_bytes, reply_status}
use Rattle.docket_http.specs.Serve.{IsAsked, Sends, SendsClosed, ServesClosed}
use Rattle.docket_http.specs.declared.problem.Problem.{Problem}
use Rattle.docket_http.specs.declared.problem.Problem.TheVariants.{Closed, NoMemory}
use Rattle.docket_http.specs.declared.reply.Reply.{Reply}
use Rattle.docket_http.specs.declared.reply.Reply.TheVariants.{Fixed}
use Rattle.docket_http.specs.declared.fault.ServeFault.{ServeFault}
use Rattle.docket_http.specs.declared.fault.ServeFault.TheVariants as serve
use Rattle.docket_http.specs.declared.sending.Served.{Served}

-- a question whose result is that the docket is closed
pub closed_told : (wish : Wish) (body : List ℕ) (r : Result Reply Fault) → r ≡ Err fault.Closed → IsClosedAnswer wish body (problem_to wish Closed) → RepliesClosed wish body r
closed_told wish body r is answer = subst (λ (x : Result Reply Fault). RepliesClosed wish body x) (sym is) answer

-- an answer that is built unless memory runs out
pub closed_built : (wish : Wish) (body : List ℕ) (response : Response) (r : Result Reply Fault) → IfOk r (λ reply. IsReply reply response) → IfErr r (λ f. f ≡ fault.NoMemory)
    → IsClosedAnswer wish body response → IsClosedAnswer wish body (problem_to wish NoMemory) → RepliesClosed wish body r
closed_built wish body response (Ok reply) is short usual answer = (response, is, usual)
closed_built wish body response (Err f) is short usual answer = subst (λ (x : Fault). RepliesClosed wish body (Err x)) (sym short) answer

-- the writing of a reply
pub sends_reply : (r : Result Served ServeFault) (reply : Reply) (response : Response) (o n : Option (List ℕ)) → IsReply reply response
    → IfOk r (λ s. Appends o n (reply_bytes reply) × (s.status ≡ reply_status reply))
    → IfErr r (λ e. (e ≡ serve.WriteFailed) × AppendsFront o n (reply_bytes reply))
    → Sends response o n r
sends_reply (Ok s) reply response o n is whole front = (subst (λ (b : List ℕ). Appends o n b) is.0 whole.0, whole.1 ∙ is.1)
sends_reply (Err e) reply response o n is whole front =
    subst (λ (x : ServeFault). Sends response o n (Err x)) (sym front.0) (subst (λ (b : List ℕ). AppendsFront o n b) is.0 front.1)

pub closed_reply_sent : (r : Result Served ServeFault) (wish : Wish) (body : List ℕ) (reply : Reply) (o n : Option (List ℕ)) → IsClosedReply wish body reply
    → IfOk r (λ s. Appends o n (reply_bytes reply) × (s.status ≡ reply_status reply))
    → IfErr r (λ e. (e ≡ serve.WriteFailed) × AppendsFront o n (reply_bytes reply))
    → SendsClosed wish body o n r
closed_reply_sent r wish body reply o n closed whole front =
    record { response = closed.0; closed = closed.2; sent = sends_reply r reply closed.0 o n closed.1 whole front }

-- a calendar that did not begin since the docket is closed
pub closed_sent : (e : ListingEnd) (f : Fault) (p : Problem) (o m n : Option (List ℕ)) (r : Result Served ServeFault)
    → e ≡ listing.NotBegun f → p ≡ problem_of_fault f → ◌≡◌ {A = Result ℕ ListingEnd} (Err e) (Err (listing.NotBegun fault.Closed)) → m ≡ o
    → IfOk r (λ s. Appends m n (reply_bytes (Fixed p)) × (s.status ≡ problem_status p))
    → IfErr r (λ x. (x ≡ serve.WriteFailed) × AppendsFront m n (reply_bytes (Fixed p)))
    → Sends (problem_response Closed) o n r
closed_sent e f p o m n r is told shut kept whole front =
    let fault_is : f ≡ fault.Closed = cc in
    let closed = told ∙ ap problem_of_fault fault_is in
    subst (λ (b : Option (List ℕ)). Sends (problem_response Closed) b n r) kept
    (sends_reply r (Fixed p) (problem_response Closed) m n (ap (λ q. response_bytes (problem_response q)) closed, ap problem_status closed) whole front)

-- a calendar that began was not closed
pub begun_open : {A : Type 0} (e : ListingEnd) (f : Fault) → e ≡ listing.Broken f → ◌≡◌ {A = Result ℕ ListingEnd} (Err e) (Err (listing.NotBegun fault.Closed)) → A
begun_open e f is shut = absurd (cc)

pub cut_open : {A : Type 0} (e : ListingEnd) → e ≡ listing.WriteFailed → ◌≡◌ {A = Result ℕ ListingEnd} (Err e) (Err (listing.NotBegun fault.Closed)) → A
cut_open e is shut = absurd (cc)

-- a request that was read
pub read_closed : (routes : Routes) (fresh : ℕ) (input : Option (List ℕ)) (wish : Wish) (body : List ℕ) (o n : Option (List ℕ)) (r : Result Served ServeFault) → IsAsked routes fresh input wish body
    → SendsClosed wish body o n r → ServesClosed routes fresh input o n r
read_closed routes fresh input wish body o n (Ok s) asked closed = inl (wish, body, asked, closed)
read_closed routes fresh input wish body o n (Err serve.WriteFailed) asked closed = inl (wish, body, asked, closed)
read_closed routes fresh input wish body o n (Err serve.NoMemory) asked closed = inl (wish, body, asked, closed)
read_closed routes fresh input wish body o n (Err serve.StoreFailed) asked closed = inl (wish, body, asked, closed)
read_closed routes fresh input wish body o n (Err serve.ReadFailed) asked closed = absurd closed.sent
read_closed routes fresh input wish body o n (Err serve.EndedEarly) asked closed = absurd closed.sent
read_closed routes fresh input wish body o n (Err serve.CopyWanted) asked closed = absurd closed.sent

-- memory ran out before the request was read
pub unread_closed : (routes : Routes) (fresh : ℕ) (input o n : Option (List ℕ)) (r : Result Served ServeFault)
    → IfOk r (λ s. Appends o n (reply_bytes (Fixed NoMemory)) × (s.status ≡ 500))
    → IfErr r (λ e. (e ≡ serve.WriteFailed) × AppendsFront o n (reply_bytes (Fixed NoMemory)))
    → ServesClosed routes fresh input o n r
unread_closed routes fresh input o n (Ok s) whole front = inr whole
unread_closed routes fresh input o n (Err e) whole front = subst (λ (x : ServeFault). ServesClosed routes fresh input o n (Err x)) (sym front.0) (inr front.1)
