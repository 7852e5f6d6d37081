-- What an answer leaves of any docket, whether or not a history leads to its rows: the reply that is sent to a command is recorded.
use Rattle.std.specs.Prelude.{◌≡◌, ◌≤◌, ◌⊎◌, true, ℕ, List, Option, None, IfSome, Result, Ok, Err, IfOk, IfErr}
use Rattle.sqlite.specs.Held.{state}
use Rattle.sqlite.specs.State.{Survives}
use Rattle.sqlite.specs.Store.{Ghosts}
use Rattle.sqlite.specs.View.{doubt}
use Rattle.docket_command.specs.declared.command.Command.{Command}
use Rattle.docket_command.specs.declared.refusal.Reply.{Reply as Number}
use Rattle.docket_history.specs.Histories.{History}
use Rattle.docket_tables.specs.Layouts.{Rows}
use Rattle.docket_tables.specs.Stands.{HoldsRows, Lasts}
use Rattle.docket_applying.specs.AnyRows.{HoldsDocketRows, IsRecorded, WritesAtMostOne}
use Rattle.docket_applying.specs.Applying.{Stands}
use Rattle.docket_applying.specs.declared.fault.Fault.{Fault}
use Rattle.docket_applying.specs.Dockets.{Docket}
use Rattle.http_request.specs.declared.page.Routes.{Routes}
use Rattle.http_request.specs.declared.wish.Wish.{Wish}
use Rattle.docket_http.specs.Answer.{Response, problem_response}
use Rattle.docket_http.specs.Asking.{Replies, RepliesClosed}
use Rattle.docket_http.specs.Entering.{Entry, entry_of, said_response}
use Rattle.docket_http.specs.Reply.{IsReply}
use Rattle.docket_http.specs.Serve.{IsAsked, IsOfWriting, Sends, SendsClosed}
use Rattle.docket_http.specs.declared.problem.Problem.TheVariants.{NoMemory}
use Rattle.docket_http.specs.declared.fault.ServeFault.{ServeFault}
use Rattle.docket_http.specs.declared.fault.ServeFault.TheVariants as serve
use Rattle.docket_http.specs.declared.reply.Reply.{Reply}
use Rattle.docket_http.specs.declared.sending.Served.{Served}

module _ {S : Type 0} (g : Ghosts S) where
  -- a command is spelled, the answer is that to its reply, and the docket holds a receipt of the command with that reply
  pub record IsTold (d : Docket S) (e : Entry) (response : Response) : Type 0 where
    pub command : Command
    pub reply : Number
    pub spelled : e.read ≡ Ok command
    pub told : response ≡ said_response e.manner command (Ok reply)
    pub recorded : IsRecorded g d command reply

  -- an answer with status 200, or with 303 to a browser
  abbrev pub IsBacked : Docket S → Entry → Response → Type 0
  IsBacked d e response = (response.status ≡ 200) ⊎ (response.status ≡ 303) → IsTold d e response

  -- a reply to a request that enters a command
  abbrev pub RepliesBacked : Docket S → Wish → List ℕ → Reply → Type 0
  RepliesBacked d wish body reply = IfSome (entry_of wish body) (λ e. (response : Response) × IsReply reply response × IsBacked d e response)

  -- the answer to it went out, or, if the writer failed, a front of it
  pub record SendsBacked (d : Docket S) (e : Entry) (before after : Option (List ℕ)) (result : Result Served ServeFault) : Type 0 where
    pub response : Response
    pub backed : IsBacked d e response
    pub sent : Sends response before after result

  abbrev pub SentBacked : Docket S → Wish → List ℕ → Option (List ℕ) → Option (List ℕ) → Result Served ServeFault → Type 0
  SentBacked d wish body before after result = IfSome (entry_of wish body) (λ e. SendsBacked d e before after result)

  -- what a connection gets: the answer to its request, or that memory ran out before the request was read whole
  abbrev pub ServesBacked : Routes → ℕ → Option (List ℕ) → Docket S → Option (List ℕ) → Option (List ℕ) → Result Served ServeFault → Type 0
  ServesBacked routes fresh input d before after (Err serve.ReadFailed) = Unit {0}
  ServesBacked routes fresh input d before after (Err serve.EndedEarly) = Unit {0}
  ServesBacked routes fresh input d before after (Err serve.CopyWanted) = Unit {0}
  ServesBacked routes fresh input d before after result =
      ((wish : Wish) × (body : List ℕ) × IsAsked routes fresh input wish body × SentBacked d wish body before after result)
      ⊎ Sends (problem_response NoMemory) before after result

  -- at most one command is written, whole, and nothing else
  pub record OnlyWrites (old new : Docket S) : Type 0 where
    pub court : new.court ≡ old.court
    -- a disk that was not clean is not clean after it
    pub clean : doubt (state g old.conn).is_clean ≤ doubt (state g new.conn).is_clean
    pub any : WritesAtMostOne g old new

  -- nothing is written: the rows stay, whatever they are, and each database that a power failure may leave was one before
  pub record WritesNothing (old new : Docket S) : Type 0 where
    pub stays : (rows : Rows) → HoldsRows g old.conn rows → Lasts g new.conn rows
    pub survives : Survives (state g old.conn) (state g new.conn) (λ _. ⊥)

  -- a request that enters no command writes nothing: a preview enters none
  abbrev pub IsStill : Docket S → Docket S → Wish → List ℕ → Type 0
  IsStill old new wish body = entry_of wish body ≡ None → WritesNothing old new

  -- what a connection leaves, by the request that it brought; without one the docket is as it was
  abbrev pub ServesStill : Routes → ℕ → Option (List ℕ) → Docket S → Docket S → Type 0
  ServesStill routes fresh input old new =
      ((wish : Wish) × (body : List ℕ) × IsAsked routes fresh input wish body × IsStill old new wish body) ⊎ (new ≡ old)

  -- what a reply to a request leaves
  pub record OnlyReplies (old new : Docket S) (wish : Wish) (body : List ℕ) (result : Result Reply Fault) : Type 0 where
    pub writes : OnlyWrites old new
    pub still : IsStill old new wish body
    pub closed : old.closed ≡ true → (new ≡ old) × RepliesClosed wish body result
    pub recorded : HoldsDocketRows g old → IfOk result (RepliesBacked new wish body)

  -- the reply to a request, for the docket of a history, and what it leaves of any docket
  pub record RepliesTo (old new : Docket S) (wish : Wish) (body : List ℕ) (result : Result Reply Fault) : Type 0 where
    pub replies : (h : History) → Stands g old h → Replies g new h wish body result
    pub only : OnlyReplies old new wish body result

  -- what an answer leaves once it went out, or a front of it
  pub record OnlySends (old new : Docket S) (wish : Wish) (body : List ℕ) (before after : Option (List ℕ)) (result : Result Served ServeFault) : Type 0 where
    pub writes : OnlyWrites old new
    pub still : IsStill old new wish body
    pub closed : old.closed ≡ true → (new ≡ old) × SendsClosed wish body before after result
    pub recorded : HoldsDocketRows g old → SentBacked new wish body before after result
    pub own : IfErr result IsOfWriting
