-- The reply that is sent to a command is recorded.
use Rattle.std.proofs.Common.{◌≡◌, ◌⊎◌, ◌≤◌, IfOk, IfErr, IfSome, inl, inr, ℕ, Bool, true, false, List, Option, Some, None, Result, Ok, Err, refl, subst, sym, arith}
use Rattle.std.specs.Io.KnownBytes.{Appends}
use Rattle.sqlite.specs.Store.{Ghosts}
use Rattle.court_days.specs.Court.{CourtSettings}
use Rattle.docket_command.specs.declared.command.Command.{Command}
use Rattle.docket_command.specs.declared.refusal.Refusal.{Refusal}
use Rattle.docket_command.specs.declared.refusal.Reply.{Reply as Number}
use Rattle.docket_tables.specs.Layouts.{Rows}
use Rattle.docket_applying.specs.AnyRows.{AnswersWhole}
use Rattle.docket_applying.specs.Dockets.{Docket}
use Rattle.docket_applying.specs.declared.fault.Fault.{Fault}
use Rattle.docket_applying.proofs.AnyLemmas.{whole_recorded}
use Rattle.docket_wire.specs.declared.fault.WireFault.{WireFault}
use Rattle.line_io.specs.Output.{AppendsFront}
use Rattle.http_request.specs.declared.fields.Rejection.{Rejection}
use Rattle.http_request.specs.declared.fields.Rejection.TheVariants as rejection
use Rattle.http_request.specs.declared.page.Routes.{Routes}
use Rattle.http_request.specs.declared.wish.Wish.{Wish}
use Rattle.docket_http.specs.Answer.{Response, problem_response, problem_said, problem_status, rejection_status}
use Rattle.docket_http.specs.Asking.{is_of_pages, problem_to}
use Rattle.docket_http.specs.Entering.{Entry, Manner, in_json, in_pages, entry_of, fault_response, said_response}
use Rattle.docket_http.specs.Recorded.{IsBacked, RepliesBacked, SendsBacked, SentBacked, ServesBacked}
use Rattle.docket_http.specs.Reply.{IsReply, reply_bytes, reply_status}
use Rattle.docket_http.specs.Serve.{IsAsked, Sends}
use Rattle.docket_http.specs.declared.problem.Problem.{Problem}
use Rattle.docket_http.specs.declared.problem.Problem.TheVariants as problem
use Rattle.docket_http.specs.declared.reply.Reply.{Reply}
use Rattle.docket_http.specs.declared.reply.Reply.TheVariants.{Fixed}
use Rattle.docket_http.specs.declared.fault.ServeFault.{ServeFault}
use Rattle.docket_http.specs.declared.fault.ServeFault.TheVariants as serve
use Rattle.docket_http.specs.declared.sending.Served.{Served}
use Rattle.docket_http.proofs.ClosedLemmas.{sends_reply}

-- no problem has the status of an accepted command

rejection_bounds : (r : Rejection) → 400 ≤ rejection_status r
rejection_bounds rejection.HeadTooLong = omega arith
rejection_bounds rejection.BadHead = omega arith
rejection_bounds rejection.NotFound = omega arith
rejection_bounds rejection.Method = omega arith
rejection_bounds rejection.BadPathValue = omega arith
rejection_bounds rejection.LengthRequired = omega arith
rejection_bounds rejection.TooLong = omega arith
rejection_bounds rejection.Foreign = omega arith
rejection_bounds rejection.MediaType = omega arith

problem_bounds : (p : Problem) → 400 ≤ problem_status p
problem_bounds (problem.Rejected r) = rejection_bounds r
problem_bounds problem.NoSuchCase = omega arith
problem_bounds problem.NoCopy = omega arith
problem_bounds problem.NoMemory = omega arith
problem_bounds problem.Store = omega arith
problem_bounds problem.Closed = omega arith
problem_bounds problem.Damaged = omega arith

-- whoever is told
said_bounds : (browser : Bool) (p : Problem) → 400 ≤ (problem_said browser p).status
said_bounds false p = problem_bounds p
said_bounds true (problem.Rejected r) = rejection_bounds r
said_bounds true problem.NoSuchCase = omega arith
said_bounds true problem.NoCopy = omega arith
said_bounds true problem.NoMemory = omega arith
said_bounds true problem.Store = omega arith
said_bounds true problem.Closed = omega arith
said_bounds true problem.Damaged = omega arith

too_high : (n : ℕ) → 400 ≤ n → (n ≡ 200) ⊎ (n ≡ 303) → ⊥
too_high n high (inl is) = omega (arith, high, is)
too_high n high (inr is) = omega (arith, high, is)

refused_high : (manner : Manner) (c : Command) (r : Refusal) → 400 ≤ (said_response manner c (Err r)).status
refused_high in_json c r = omega arith
refused_high (in_pages fresh pairs) c r = omega arith

fault_high : (manner : Manner) (f : WireFault) → 400 ≤ (fault_response manner f).status
fault_high in_json f = omega arith
fault_high (in_pages fresh pairs) f = omega arith

each_entry : (P : Entry → Type 0) (entered : Option Entry) → ((e : Entry) → P e) → IfSome entered P
each_entry P None p = tt
each_entry P (Some e) p = p e

module _ {S : Type 0} (g : Ghosts S) (d : Docket S) where
  -- the answer to a command

  high_backed : (e : Entry) (response : Response) → 400 ≤ response.status → IsBacked g d e response
  high_backed e response high status = absurd (too_high response.status high status)

  said_told : (court : CourtSettings) (n : ℕ) (rows : Rows) (c : Command) (said : Result Number Refusal) (manner : Manner) → AnswersWhole g d.conn court n rows c (Ok said)
      → IsBacked g d (record { read = Ok c; manner = manner }) (said_response manner c said)
  said_told court n rows c (Ok reply) manner whole = λ _. record { command = c; reply = reply; spelled = refl; told = refl; recorded = whole_recorded g d court n rows c reply whole }
  said_told court n rows c (Err r) manner whole = high_backed _ _ (refused_high manner c r)

  -- the reply with an answer that is built unless memory runs out
  built_as : (entered : Option Entry) (response : Response) (reply : Reply) → IsReply reply response → IfSome entered (λ e. IsBacked g d e response)
      → IfSome entered (λ e. (response : Response) × IsReply reply response × IsBacked g d e response)
  built_as None response reply is backed = tt
  built_as (Some e) response reply is backed = (response, is, backed)

  built_backed : (wish : Wish) (body : List ℕ) (e : Entry) (response : Response) (r : Result Reply Fault) → entry_of wish body ≡ Some e → IfOk r (λ reply. IsReply reply response)
      → IsBacked g d e response → IfOk r (RepliesBacked g d wish body)
  built_backed wish body e response (Ok reply) entered is backed =
      built_as (entry_of wish body) response reply is (subst (λ (o : Option Entry). IfSome o (λ e. IsBacked g d e response)) (sym entered) backed)
  built_backed wish body e response (Err f) entered is backed = tt

  pub said_backed : (court : CourtSettings) (n : ℕ) (rows : Rows) (c : Command) (said : Result Number Refusal) (manner : Manner) (wish : Wish) (body : List ℕ) (r : Result Reply Fault)
      → AnswersWhole g d.conn court n rows c (Ok said) → entry_of wish body ≡ Some (record { read = Ok c; manner = manner })
      → IfOk r (λ reply. IsReply reply (said_response manner c said)) → IfOk r (RepliesBacked g d wish body)
  said_backed court n rows c said manner wish body r whole entered is = built_backed wish body _ _ r entered is (said_told court n rows c said manner whole)

  pub fault_backed : (f : WireFault) (manner : Manner) (wish : Wish) (body : List ℕ) (r : Result Reply Fault) → entry_of wish body ≡ Some (record { read = Err f; manner = manner })
      → IfOk r (λ reply. IsReply reply (fault_response manner f)) → IfOk r (RepliesBacked g d wish body)
  fault_backed f manner wish body r entered is = built_backed wish body _ _ r entered is (high_backed _ _ (fault_high manner f))

  -- a request that enters no command
  pub none_backed : (wish : Wish) (body : List ℕ) (r : Result Reply Fault) → entry_of wish body ≡ None → IfOk r (RepliesBacked g d wish body)
  none_backed wish body (Ok reply) none = subst (λ (o : Option Entry). IfSome o (λ e. (response : Response) × IsReply reply response × IsBacked g d e response)) (sym none) tt
  none_backed wish body (Err f) none = tt

  pub problem_backed : (wish : Wish) (body : List ℕ) (p : Problem) (reply : Reply) → IsReply reply (problem_to wish p) → RepliesBacked g d wish body reply
  problem_backed wish body p reply is = each_entry _ (entry_of wish body) (λ e. (problem_to wish p, is, high_backed e _ (said_bounds (is_of_pages wish) p)))

  -- the writing of it

  sent_by : (entered : Option Entry) (reply : Reply) (o n : Option (List ℕ)) (r : Result Served ServeFault)
      → IfSome entered (λ e. (response : Response) × IsReply reply response × IsBacked g d e response)
      → IfOk r (λ s. Appends o n (reply_bytes reply) × (s.status ≡ reply_status reply))
      → IfErr r (λ e. (e ≡ serve.WriteFailed) × AppendsFront o n (reply_bytes reply))
      → IfSome entered (λ e. SendsBacked g d e o n r)
  sent_by None reply o n r backed whole front = tt
  sent_by (Some e) reply o n r backed whole front = record { response = backed.0; backed = backed.2; sent = sends_reply r reply backed.0 o n backed.1 whole front }

  pub sent_backed : (wish : Wish) (body : List ℕ) (reply : Reply) (o n : Option (List ℕ)) (r : Result Served ServeFault) → RepliesBacked g d wish body reply
      → IfOk r (λ s. Appends o n (reply_bytes reply) × (s.status ≡ reply_status reply))
      → IfErr r (λ e. (e ≡ serve.WriteFailed) × AppendsFront o n (reply_bytes reply))
      → SentBacked g d wish body o n r
  sent_backed wish body reply o n r backed whole front = sent_by (entry_of wish body) reply o n r backed whole front

  pub read_backed : (routes : Routes) (fresh : ℕ) (input : Option (List ℕ)) (wish : Wish) (body : List ℕ) (o n : Option (List ℕ)) (r : Result Served ServeFault) → IsAsked routes fresh input wish body
      → SentBacked g d wish body o n r → ServesBacked g routes fresh input d o n r
  read_backed routes fresh input wish body o n (Ok s) asked sent = inl (wish, body, asked, sent)
  read_backed routes fresh input wish body o n (Err serve.WriteFailed) asked sent = inl (wish, body, asked, sent)
  read_backed routes fresh input wish body o n (Err serve.NoMemory) asked sent = inl (wish, body, asked, sent)
  read_backed routes fresh input wish body o n (Err serve.StoreFailed) asked sent = inl (wish, body, asked, sent)
  read_backed routes fresh input wish body o n (Err serve.ReadFailed) asked sent = tt
  read_backed routes fresh input wish body o n (Err serve.EndedEarly) asked sent = tt
  read_backed routes fresh input wish body o n (Err serve.CopyWanted) asked sent = tt

  unread : (routes : Routes) (fresh : ℕ) (input o n : Option (List ℕ)) (r : Result Served ServeFault) → Sends (problem_response problem.NoMemory) o n r → ServesBacked g routes fresh input d o n r
  unread routes fresh input o n (Ok s) sent = inr sent
  unread routes fresh input o n (Err serve.WriteFailed) sent = inr sent
  unread routes fresh input o n (Err serve.NoMemory) sent = absurd sent
  unread routes fresh input o n (Err serve.StoreFailed) sent = absurd sent
  unread routes fresh input o n (Err serve.ReadFailed) sent = tt
  unread routes fresh input o n (Err serve.EndedEarly) sent = tt
  unread routes fresh input o n (Err serve.CopyWanted) sent = tt

  -- memory ran out before the request was read
  pub unread_backed : (routes : Routes) (fresh : ℕ) (input o n : Option (List ℕ)) (r : Result Served ServeFault)
      → IfOk r (λ s. Appends o n (reply_bytes (Fixed problem.NoMemory)) × (s.status ≡ 500))
      → IfErr r (λ e. (e ≡ serve.WriteFailed) × AppendsFront o n (reply_bytes (Fixed problem.NoMemory)))
      → ServesBacked g routes fresh input d o n r
  unread_backed routes fresh input o n r whole front = unread routes fresh input o n r (sends_reply r (Fixed problem.NoMemory) (problem_response problem.NoMemory) o n (refl, refl) whole front)
