-- What a reply, and its writing, leaves of any docket.
use Rattle.std.proofs.Common.{◌≡◌, ◌≤◌, IsTrue, IsErrAnd, inl, true, ℕ, List, Option, Some, None, Result, Ok, Err, IfOk, IfErr, refl, sym, ap, subst, ◌∙◌, arith}
use Rattle.std.specs.Io.KnownBytes.{Appends}
use Rattle.sqlite.specs.Held.{state}
use Rattle.sqlite.specs.State.{Survives}
use Rattle.sqlite.specs.Store.{Ghosts}
use Rattle.sqlite.specs.View.{doubt}
use Rattle.court_days.specs.Court.{CourtSettings}
use Rattle.docket_history.specs.Histories.{History}
use Rattle.docket_tables.proofs.NothingLemmas.{nothing_called}
use Rattle.docket_tables.specs.Layouts.{Rows}
use Rattle.docket_tables.specs.Stands.{HoldsRows, Lasts}
use Rattle.docket_applying.specs.Applying.{Asks, Stands}
use Rattle.docket_applying.specs.Dockets.{Docket}
use Rattle.docket_applying.specs.declared.fault.Fault.{Fault}
use Rattle.docket_applying.specs.declared.fault.Fault.TheVariants as fault
use Rattle.docket_applying.proofs.AnyLemmas.{lasting, lasts_after}
use Rattle.docket_store.specs.Asking.{OnlyAnswers}
use Rattle.line_io.specs.Output.{AppendsFront}
use Rattle.http_request.specs.declared.wish.Wish.{Wish}
use Rattle.http_request.specs.declared.wish.Wish.TheVariants.{Calendar}
use Rattle.docket_http.specs.Answer.{Response, problem_response}
use Rattle.docket_http.specs.Asking.{IsClosedAnswer, RepliesClosed, asks_docket, problem_to, response_to, takes_memory}
use Rattle.docket_http.specs.Entering.{Entry, entry_of}
use Rattle.docket_http.specs.Recorded.{IsStill, OnlyReplies, OnlySends, OnlyWrites, RepliesBacked, RepliesTo, WritesNothing}
use Rattle.docket_http.specs.Reply.{IsReply, reply_bytes, reply_status}
use Rattle.docket_http.specs.Serve.{IsOfWriting, Sends}
use Rattle.docket_http.specs.declared.problem.Problem.TheVariants.{Closed, NoMemory}
use Rattle.docket_http.specs.declared.reply.Reply.{Reply}
use Rattle.docket_http.specs.declared.fault.ServeFault.{ServeFault}
use Rattle.docket_http.specs.declared.fault.ServeFault.TheVariants as serve
use Rattle.docket_http.specs.declared.sending.Served.{Served}
use Rattle.docket_http.proofs.AskingLemmas.{behind, built_replied, question_replied}
use Rattle.docket_http.proofs.ClosedLemmas.{closed_built, closed_reply_sent, closed_told}
use Rattle.docket_http.proofs.RecordedLemmas.{none_backed, sent_backed}
use Rattle.docket_http.proofs.ServeLemmas.{of_writing}

module _ {S : Type 0} (g : Ghosts S) where
  -- a docket that was left as it was
  pub as_it_was : (d : Docket S) → OnlyWrites g d d
  as_it_was d = record { court = refl; clean = omega arith; any = λ rows n stored are small holds. inl (lasting g d.conn rows holds) }

  unwritten : (d : Docket S) → WritesNothing g d d
  unwritten d = record { stays = λ rows holds. lasting g d.conn rows holds; survives = nothing_called }

  -- a request that enters a command may write it
  pub entered_still : (old d : Docket S) (wish : Wish) (body : List ℕ) (e : Entry) → entry_of wish body ≡ Some e → IsStill g old d wish body
  entered_still old d wish body e is none = let never : Some e ≡ None = sym is ∙ none in absurd (cc)

  -- a reply that does not need the docket
  pub unasked : (d : Docket S) (wish : Wish) (body : List ℕ) (r : Result Reply Fault) → RepliesClosed wish body r → IfOk r (RepliesBacked g d wish body) → OnlyReplies g d d wish body r
  unasked d wish body r closed backed = record { writes = as_it_was d; still = λ none. unwritten d; closed = λ shut. (refl, closed); recorded = λ rows. backed }

  pub replies_as : (old d : Docket S) (a b : Wish) (x y : List ℕ) (r : Result Reply Fault) → a ≡ b → x ≡ y → RepliesTo g old d a x r → RepliesTo g old d b y r
  replies_as old d a b x y r same_wish same_body replies =
      subst (λ (w : Wish). RepliesTo g old d w y r) same_wish (subst (λ (z : List ℕ). RepliesTo g old d a z r) same_body replies)

  -- memory ran out while what came was read
  pub unread : (d : Docket S) (wish : Wish) (body : List ℕ) (r : Result Reply Fault) → IsTrue (takes_memory wish) → IsClosedAnswer wish body (problem_to wish NoMemory)
      → IsErrAnd r (λ f. f ≡ fault.NoMemory) → RepliesTo g d d wish body r
  unread d wish body (Ok reply) takes closed told = absurd told
  unread d wish body (Err f) takes closed told =
      subst (λ (x : Fault). RepliesTo g d d wish body (Err x)) (sym told)
      (record { replies = λ h stands clean. (takes, inl stands); only = unasked d wish body (Err fault.NoMemory) closed tt })

  -- a question to the docket
  pub question : (old d : Docket S) (asked wish : Wish) (body : List ℕ) (r : Result Reply Fault) → asked ≡ wish → entry_of wish body ≡ None → IsTrue (asks_docket wish) → IsTrue (takes_memory wish)
      → IsClosedAnswer wish body (problem_to wish Closed) → OnlyAnswers g old d r
      → ((h : History) → Stands g old h → Asks g d h (λ reply. IsReply reply (response_to old.court h wish body)) r) → RepliesTo g old d asked body r
  question old d asked wish body r same none asks takes closed only answer = replies_as old d wish asked body body r (sym same) refl (record {
    replies = λ h stands. question_replied g old d h wish body r asks takes (ap (behind d.court h) none) stands only (answer h stands);
    only = record {
      writes = record { court = only.court; clean = only.clean; any = λ rows n stored are small holds. inl (lasts_after g d.conn rows r (only.stays rows holds)) };
      still = λ enters_none. record { stays = λ rows holds. lasts_after g d.conn rows r (only.stays rows holds); survives = only.writes_nothing };
      closed = λ shut. let shown = only.closed shut in (shown.1, closed_told wish body r shown.0 closed);
      recorded = λ rows. none_backed g d wish body r none;
    };
  })

  -- an answer that needs no docket, and is built unless memory runs out
  pub alone : (d : Docket S) (asked wish : Wish) (body : List ℕ) (response : Response) (r : Result Reply Fault) → asked ≡ wish → entry_of wish body ≡ None → IsTrue (takes_memory wish)
      → ((court : CourtSettings) (h : History) → response ≡ response_to court h wish body) → IsClosedAnswer wish body response → IsClosedAnswer wish body (problem_to wish NoMemory)
      → IfOk r (λ reply. IsReply reply response) → IfErr r (λ f. f ≡ fault.NoMemory) → RepliesTo g d d asked body r
  alone d asked wish body response r same none takes usual closed short is failed = replies_as d d wish asked body body r (sym same) refl (record {
    replies = λ h stands. built_replied g d h wish body response r is failed takes (λ clean. (usual d.court h, subst (λ (o : Option Entry). Stands g d (behind d.court h o)) (sym none) stands));
    only = unasked d wish body r (closed_built wish body response r is failed closed short) (none_backed g d wish body r none);
  })

  -- an answer that needs no docket and no memory
  pub at_once : (d : Docket S) (asked wish : Wish) (body : List ℕ) (response : Response) (reply : Reply) → asked ≡ wish → entry_of wish body ≡ None → IsReply reply response
      → ((court : CourtSettings) (h : History) → response ≡ response_to court h wish body) → IsClosedAnswer wish body response
      → RepliesTo g d d asked body (Ok reply)
  at_once d asked wish body response reply same none is usual closed = replies_as d d wish asked body body (Ok reply) (sym same) refl (record {
    replies = λ h stands clean. (
      subst (λ (r : Response). IsReply reply r) (usual d.court h) is,
      subst (λ (o : Option Entry). Stands g d (behind d.court h o)) (sym none) stands,
    );
    only = unasked d wish body (Ok reply) (response, is, closed) (none_backed g d wish body (Ok reply) none);
  })

  -- the writing of a reply
  pub sent_only : (old d : Docket S) (wish : Wish) (body : List ℕ) (reply : Reply) (o n : Option (List ℕ)) (r : Result Served ServeFault) → OnlyReplies g old d wish body (Ok reply)
      → IfOk r (λ s. Appends o n (reply_bytes reply) × (s.status ≡ reply_status reply))
      → IfErr r (λ e. (e ≡ serve.WriteFailed) × AppendsFront o n (reply_bytes reply))
      → OnlySends g old d wish body o n r
  sent_only old d wish body reply o n r only whole front = record {
    writes = only.writes;
    still = only.still;
    closed = λ shut. let closed = only.closed shut in (closed.0, closed_reply_sent r wish body reply o n closed.1 whole front);
    recorded = λ rows. sent_backed g d wish body reply o n r (only.recorded rows) whole front;
    own = of_writing r _ front;
  }

  -- the writing of a calendar
  pub calendar_only : (old d : Docket S) (from to : ℕ) (body : List ℕ) (o n : Option (List ℕ)) (r : Result Served ServeFault) → d.court ≡ old.court
      → doubt (state g old.conn).is_clean ≤ doubt (state g d.conn).is_clean → ((rows : Rows) → HoldsRows g old.conn rows → Lasts g d.conn rows)
      → Survives (state g old.conn) (state g d.conn) (λ _. ⊥) → (old.closed ≡ true → (d ≡ old) × Sends (problem_response Closed) o n r) → IfErr r IsOfWriting → OnlySends g old d (Calendar from to) body o n r
  calendar_only old d from to body o n r court clean stays survives closed own = record {
    writes = record { court = court; clean = clean; any = λ rows k stored are small holds. inl (stays rows holds) };
    still = λ enters_none. record { stays = stays; survives = survives };
    closed = λ shut. let sent = closed shut in (sent.0, record { response = problem_response Closed; closed = refl; sent = sent.1 });
    recorded = λ rows. tt;
    own = own;
  }
