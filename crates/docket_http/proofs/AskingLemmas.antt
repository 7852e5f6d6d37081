-- From the docket's answer to the reply.
use Rattle.std.proofs.Common.{◌≡◌, IsTrue, IsErrAnd, IfOk, IfErr, inl, inr, ℕ, List, Option, Some, None, Result, Ok, Err, refl, sym, ap, subst, ◌∙◌, true}
use Rattle.std.specs.Option.{option_map_or}
use Rattle.sqlite.specs.Store.{Ghosts}
use Rattle.sqlite.specs.State.{HasCleanDisk}
use Rattle.sqlite.specs.Held.{state}
use Rattle.court_days.specs.Court.{CourtSettings}
use Rattle.docket_command.specs.declared.command.Command.{Command}
use Rattle.docket_command.specs.declared.refusal.Refusal.{Refusal}
use Rattle.docket_command.specs.declared.refusal.Reply.{Reply as Number}
use Rattle.docket_history.specs.Histories.{History}
use Rattle.docket_decisions.specs.Outcomes.{Answer, outcome}
use Rattle.docket_applying.specs.Applying.{Stands, Asks, docket_rows}
use Rattle.docket_applying.specs.Dockets.{Docket}
use Rattle.docket_store.specs.Sequence.{Answers, Halts, IsSaid}
use Rattle.docket_applying.specs.declared.fault.Fault.{Fault}
use Rattle.docket_applying.specs.declared.fault.Fault.TheVariants as fault
use Rattle.docket_questions.proofs.TellLemmas.{same_told, short_told}
use Rattle.docket_tables.specs.Stands.{Lasts, LastsAsEither}
use Rattle.docket_store.specs.Asking.{OnlyAnswers}
use Rattle.docket_wire.specs.declared.fault.WireFault.{WireFault}
use Rattle.http_request.specs.declared.wish.Wish.{Wish}
use Rattle.docket_http.specs.Answer.{Response}
use Rattle.docket_http.specs.Asking.{response_to, history_after, asks_docket, takes_memory, Replies, IsAnswered, problem_of_fault, problem_to}
use Rattle.docket_http.specs.Entering.{Entry, Manner, after_reading, entry_of, fault_response, outcome_response, said_response}
use Rattle.docket_http.specs.Reply.{IsReply}
use Rattle.docket_http.specs.declared.problem.Problem.TheVariants.{NoMemory, Store}
use Rattle.docket_http.specs.declared.reply.Reply.{Reply}
use Rattle.docket_http.proofs.EntryLemmas.{entering}

said_outcome : (manner : Manner) (c : Command) (said : Result Number Refusal) (a : Answer) → IsSaid said a → said_response manner c said ≡ outcome_response manner c a
said_outcome manner c (Ok reply) a (inl e) = ap (outcome_response manner c) (sym e)
said_outcome manner c (Ok reply) a (inr e) = ap (outcome_response manner c) (sym e)
said_outcome manner c (Err r) a e = ap (outcome_response manner c) (sym e)

reply_as : (reply : Reply) (a b : Response) → a ≡ b → IsReply reply a → IsReply reply b
reply_as reply a b same is = subst (λ (r : Response). IsReply reply r) same is

pub no_error : {X E A : Type 0} (x : X) (f : E) → ◌≡◌ {A = Result X E} (Ok x) (Err f) → A
no_error x f is = absurd (cc)

pub as_short : {X : Type 0} (r : Result X Fault) (f : Fault) → IsErrAnd r (λ e. e ≡ f) → f ≡ fault.NoMemory → IsErrAnd r (λ e. e ≡ fault.NoMemory)
as_short r f told same = subst (λ (x : Fault). IsErrAnd r (λ e. e ≡ x)) same told

pub err_closed : {X Y : Type 0} (r : Result X Fault) (f : Fault) → IsErrAnd r (λ e. e ≡ f) → ◌≡◌ {A = Result Y Fault} (Err f) (Err fault.Closed) → r ≡ Err fault.Closed
err_closed (Ok x) f told is = absurd told
err_closed (Err e) f told is = let same : f ≡ fault.Closed = cc in ap Err (told ∙ same)

-- the history behind what is entered
abbrev pub behind : CourtSettings → History → Option Entry → History
behind court h entered = option_map_or (λ e. after_reading court h e.read) entered h

module _ {S : Type 0} (g : Ghosts S) where
  pub either_from_lasts : (d : Docket S) (h : History) → Lasts g d.conn (docket_rows d.court h) → LastsAsEither g d.conn (docket_rows d.court h) (docket_rows d.court h)
  either_from_lasts d h lasts = (lasts.0, λ clean. record { images = λ db may. inl ((lasts.1 clean).images db may); settled = (lasts.1 clean).settled })

  -- an error that is passed on
  pub passed_on : (d : Docket S) (h : History) (wish : Wish) (body : List ℕ) (r : Result Reply Fault) (f : Fault) → IsErrAnd r (λ e. e ≡ f)
      → Replies g d h wish body (Err f) → Replies g d h wish body r
  passed_on d h wish body (Ok reply) f told replies = absurd told
  passed_on d h wish body (Err e) f told replies = subst (λ (x : Fault). Replies g d h wish body (Err x)) (sym told) replies

  -- an answer that is built unless memory runs out
  pub built_replied : (d : Docket S) (h : History) (wish : Wish) (body : List ℕ) (response : Response) (r : Result Reply Fault) → IfOk r (λ reply. IsReply reply response)
      → IfErr r (λ f. f ≡ fault.NoMemory) → IsTrue (takes_memory wish)
      → (HasCleanDisk (state g d.conn) → (response ≡ response_to d.court h wish body) × Stands g d (history_after d.court h wish body))
      → Replies g d h wish body r
  built_replied d h wish body response (Ok reply) is short takes left = λ clean. let l = left clean in (reply_as reply _ _ l.0 is, l.1)
  built_replied d h wish body response (Err f) is short takes left = subst (λ (x : Fault). Replies g d h wish body (Err x)) (sym short) (λ clean. (takes, inr (left clean).1))

  module _ (d : Docket S) (h : History) (wish : Wish) (body : List ℕ) (manner : Manner) where
    -- a command that is entered

    pub said_left : (c : Command) (said : Result Number Refusal) → entry_of wish body ≡ Some (record { read = Ok c; manner = manner }) → Answers g d h c said
        → HasCleanDisk (state g d.conn) → (said_response manner c said ≡ response_to d.court h wish body) × Stands g d (history_after d.court h wish body)
    said_left c said is answers clean =
        let a = answers clean in (
          said_outcome manner c said (outcome d.court h c) a.1 ∙ sym ((entering wish body _ is).response d.court h),
          subst (λ (e : Option Entry). Stands g d (behind d.court h e)) (sym is) a.0,
        )

    -- one that got no answer
    pub halted_replied : (c : Command) (f : Fault) → entry_of wish body ≡ Some (record { read = Ok c; manner = manner }) → (f ≡ fault.StoreFailed → d.closed ≡ true) → Halts g d h c f
        → Replies g d h wish body (Err f)
    halted_replied c fault.NoMemory is closes halts = λ clean. ((entering wish body _ is).takes, inl halts)
    halted_replied c fault.StoreFailed is closes halts = (
      (entering wish body _ is).asks,
      subst (λ (e : Option Entry). LastsAsEither g d.conn (docket_rows d.court h) (docket_rows d.court (behind d.court h e))) (sym is) halts,
      closes refl,
    )
    halted_replied c fault.Damaged is closes halts = halts
    halted_replied c fault.Closed is closes halts = absurd halts
    halted_replied c (fault.Refused r) is closes halts = absurd halts

    -- a text that spells none
    pub fault_left : (f : WireFault) → entry_of wish body ≡ Some (record { read = Err f; manner = manner }) → Stands g d h
        → (fault_response manner f ≡ response_to d.court h wish body) × Stands g d (history_after d.court h wish body)
    fault_left f is stands = (sym ((entering wish body _ is).response d.court h), subst (λ (e : Option Entry). Stands g d (behind d.court h e)) (sym is) stands)

  -- a question whose answer is built unless memory runs out
  pub built_asks : (d : Docket S) (h : History) (P : Reply → Type 0) (response : Response) (r : Result Reply Fault) → IfOk r (λ reply. IsReply reply response) → IfErr r (λ f. f ≡ fault.NoMemory)
      → Stands g d h → (HasCleanDisk (state g d.conn) → (reply : Reply) → IsReply reply response → P reply) → Asks g d h P r
  built_asks d h P response (Ok reply) is short stands answer = (stands, λ clean. answer clean reply is)
  built_asks d h P response (Err f) is short stands answer = subst (λ (x : Fault). Asks g d h P (Err x)) (sym short) stands

  -- or by what was asked
  pub written_asks : (d : Docket S) (h : History) (P : Reply → Type 0) (r : Result Reply Fault) → Stands g d h → (HasCleanDisk (state g d.conn) → IfOk r P) → IfErr r (λ f. f ≡ fault.NoMemory)
      → Asks g d h P r
  written_asks d h P (Ok reply) stands is short = (stands, is)
  written_asks d h P (Err f) stands is short = subst (λ (x : Fault). Asks g d h P (Err x)) (sym short) stands

  pub built_told : (old d : Docket S) {X : Type 0} (x : X) (r : Result Reply Fault) → IfErr r (λ f. f ≡ fault.NoMemory) → OnlyAnswers g old d (Ok x) → OnlyAnswers g old d r
  built_told old d x (Ok reply) short only = same_told g old d x reply only
  built_told old d x (Err f) short only = short_told g old d x (Err f) short only

  -- a question that got no answer
  pub asked_replied : {X : Type 0} (d : Docket S) (h : History) (wish : Wish) (body : List ℕ) (f : Fault) (answer : X → Type 0)
      → IsTrue (asks_docket wish) → IsTrue (takes_memory wish) → history_after d.court h wish body ≡ h → (f ≡ fault.StoreFailed → d.closed ≡ true) → Asks g d h answer (Err f) → Replies g d h wish body (Err f)
  asked_replied d h wish body fault.NoMemory answer asks takes same closes left = λ clean. (takes, inl left)
  asked_replied d h wish body fault.StoreFailed answer asks takes same closes left =
      (asks, subst (λ (k : History). LastsAsEither g d.conn (docket_rows d.court h) (docket_rows d.court k)) (sym same) (either_from_lasts d h left), closes refl)
  asked_replied d h wish body fault.Damaged answer asks takes same closes left = left
  asked_replied d h wish body fault.Closed answer asks takes same closes left = absurd left
  asked_replied d h wish body (fault.Refused r) answer asks takes same closes left = absurd left

  -- a question, whether or not it got an answer
  pub question_replied : (old d : Docket S) (h : History) (wish : Wish) (body : List ℕ) (r : Result Reply Fault)
      → IsTrue (asks_docket wish) → IsTrue (takes_memory wish) → history_after d.court h wish body ≡ h → Stands g old h → OnlyAnswers g old d r
      → Asks g d h (λ reply. IsReply reply (response_to old.court h wish body)) r → Replies g d h wish body r
  question_replied old d h wish body (Ok reply) asks takes same stands only asked = λ clean. (
    reply_as reply _ _ (ap (λ court. response_to court h wish body) (sym only.court)) (asked.1 clean),
    subst (λ (k : History). Stands g d k) (sym same) asked.0,
  )
  question_replied old d h wish body (Err f) asks takes same stands only asked =
      asked_replied d h wish body f (λ reply. IsReply reply (response_to old.court h wish body)) asks takes same (λ is. (only.closes stands.serves).1 (ap Err is)) asked

  -- a reply, or what is sent in its place
  abbrev pub Tells : Docket S → History → Wish → List ℕ → Reply → Type 0
  Tells d h wish body reply = (response : Response) × IsReply reply response × IsAnswered g d h wish body response

  pub reply_told : (d : Docket S) (h : History) (wish : Wish) (body : List ℕ) (reply : Reply) → Replies g d h wish body (Ok reply) → HasCleanDisk (state g d.conn) → Tells d h wish body reply
  reply_told d h wish body reply replies clean =
      let r = replies clean in (_, r.0, record { problem = None; is = refl; left = r.1 })

  pub problem_told : (d : Docket S) (h : History) (wish : Wish) (body : List ℕ) (f : Fault) (reply : Reply) → IsReply reply (problem_to wish (problem_of_fault f)) → Replies g d h wish body (Err f)
      → HasCleanDisk (state g d.conn) → Tells d h wish body reply
  problem_told d h wish body fault.NoMemory reply is replies clean = (problem_to wish NoMemory, is, record { problem = Some NoMemory; is = refl; left = replies clean })
  problem_told d h wish body fault.StoreFailed reply is replies clean = (problem_to wish Store, is, record { problem = Some Store; is = refl; left = replies })
  problem_told d h wish body fault.Damaged reply is replies clean = absurd (replies clean)
  problem_told d h wish body fault.Closed reply is replies clean = absurd replies
  problem_told d h wish body (fault.Refused r) reply is replies clean = absurd replies
