-- What a docket becomes when connections are served one after the other.
use Rattle.std.specs.Prelude.{◌≡◌, ◌⊎◌, ◌≤◌, ℕ, true, false, List, [], ◌∷◌, Option, IfSome, Result, Ok, Err, IfErr}
use Rattle.std.specs.Io.KnownBytes.{Keeps}
use Rattle.std.specs.List.{AllByRecursion}
use Rattle.sqlite.specs.Store.{Ghosts}
use Rattle.sqlite.specs.Held.{state}
use Rattle.sqlite.specs.State.{HasCleanDisk}
use Rattle.sqlite.specs.View.{doubt}
use Rattle.court_days.specs.Court.{CourtSettings}
use Rattle.docket_history.specs.Histories.{History}
use Rattle.docket_tables.specs.Stands.{LastsAsEither}
use Rattle.docket_applying.specs.AnyRows.{HoldsDocketRows, WritesAtMostOne}
use Rattle.docket_applying.specs.Applying.{Stands, docket_rows}
use Rattle.docket_applying.specs.Dockets.{Docket}
use Rattle.docket_copies.specs.Copies.{IsSoundFile}
use Rattle.http_request.specs.declared.page.Routes.{Routes}
use Rattle.http_request.specs.declared.wish.Wish.{Wish}
use Rattle.http_request.specs.declared.wish.Wish.TheVariants.{Copy}
use Rattle.docket_http.specs.Asking.{history_after}
use Rattle.docket_http.specs.Recorded.{ServesBacked, ServesStill}
use Rattle.docket_http.specs.Serve.{Fails, IsAsked, SendsCopy, Serves, ServesClosed}
use Rattle.docket_http.specs.declared.fault.ServeFault.{ServeFault}
use Rattle.docket_http.specs.declared.fault.ServeFault.TheVariants.{EndedEarly, ReadFailed, WriteFailed}
use Rattle.docket_http.specs.declared.sending.Served.{Served}
use Rattle.docket_serving.specs.Exchanges.{Ends, Exchange, Logs, Rise, tells_failure, wants_copy}
use Rattle.docket_serving.specs.declared.serving.ServingFault.{ServingFault}

-- the history is that before a connection, or that after the command that it sent
abbrev pub IsNext : Routes → CourtSettings → History → Exchange → History → Type 0
IsNext routes court h e next =
    (next ≡ h) ⊎ ((wish : Wish) × (body : List ℕ) × IsAsked routes e.number e.input wish body × (next ≡ history_after court h wish body))

-- a closed docket's answer went out, or a front of it
abbrev pub IsToldClosed : Routes → Exchange → Type 0
IsToldClosed routes e = ServesClosed routes e.number e.input e.before e.after e.end

-- it did to each of these
abbrev pub AreToldClosed : Routes → List Exchange → Type 0
AreToldClosed routes = AllByRecursion (IsToldClosed routes)

-- the answer to a request for a copy, or a front of it, went out: a file that alone is a sound docket's, or that there is no copy
abbrev pub GivesCopy : Option (List ℕ) → Option (List ℕ) → Result Served ServeFault → Type 0
GivesCopy before after end = (copy : Option (List ℕ)) × IfSome copy IsSoundFile × SendsCopy copy before after end

-- a request for a copy of the docket's file was answered; the docket is as it was
pub record IsCopied {S : Type 0} (routes : Routes) (old new : Docket S) (e : Exchange) : Type 0 where
  pub body : List ℕ
  pub asked : IsAsked routes e.number e.input Copy body
  pub same : new ≡ old
  pub gives : GivesCopy e.before e.after e.end

module _ {S : Type 0} (g : Ghosts S) (routes : Routes) where
  -- what the docket of a history serves to the connection
  abbrev pub AnswersOf : Docket S → Docket S → History → Exchange → Result Served ServeFault → Type 0
  AnswersOf old new h e (Ok served) = Serves g routes e.number e.input old new h e.before e.after served.status
  AnswersOf old new h e (Err fault) = Fails g routes e.number e.input old new h e.before e.after fault

  -- the same, or the answer to a request for a copy
  abbrev pub Answers : Docket S → Docket S → History → Exchange → Type 0
  Answers old new h e = AnswersOf old new h e e.end ⊎ IsCopied routes old new e

  -- all that is promised of one connection, for any docket
  pub record IsAttended (old : Docket S) (e : Exchange) (new : Docket S) : Type 0 where
    pub court : new.court ≡ old.court
    pub clean : doubt (state g old.conn).is_clean ≤ doubt (state g new.conn).is_clean
    pub any : WritesAtMostOne g old new
    -- a request that enters no command writes nothing
    pub still : ServesStill g routes e.number e.input old new
    pub closed : old.closed ≡ true → (new ≡ old) × IsToldClosed routes e
    -- a request for a copy is answered too
    pub answered : wants_copy e.end ≡ false
    pub answers : (h : History) → Stands g old h → HasCleanDisk (state g new.conn) → Answers old new h e
    pub recorded : HoldsDocketRows g old → ServesBacked g routes e.number e.input new e.before e.after e.end
    pub untouched : IfErr e.end (λ fault. (fault ≡ ReadFailed) ⊎ (fault ≡ EndedEarly) → (new ≡ old) × Keeps e.before e.after)

  -- the connections were served one after the other, each by the docket that the one before it left
  abbrev pub ServesEach : Docket S → List Exchange → Docket S → Type 0
  ServesEach old [] new = new ≡ old
  ServesEach old (e ∷ rest) new = (left : Docket S) × IsAttended old e left × ServesEach left rest new

  -- the docket is that of the next history, and the answer does not report a failure
  pub record Stays (h : History) (e : Exchange) (left : Docket S) (next : History) : Type 0 where
    pub is : IsNext routes left.court h e next
    pub stands : Stands g left next
    pub told : tells_failure e.end ≡ false

  -- the database failed: a power failure leaves the docket of the history or of the next, and the docket is closed. The answer reports the
  -- failure, unless it could not be written whole
  pub record Fell (h : History) (e : Exchange) (left : Docket S) : Type 0 where
    pub next : History
    pub is : IsNext routes left.court h e next
    pub lasts : LastsAsEither g left.conn (docket_rows left.court h) (docket_rows left.court next)
    pub closed : left.closed ≡ true
    pub told : (tells_failure e.end ≡ true) ⊎ (e.end ≡ Err WriteFailed)

  -- from the docket of a history: each connection is served by the docket that those before it led to, up to the last or to one where the
  -- database failed
  abbrev pub Leads : Docket S → History → List Exchange → Docket S → Type 0
  Leads old h [] new = (new ≡ old) × Stands g new h
  Leads old h (e ∷ rest) new =
      (left : Docket S) × Answers old left h e
      × (((next : History) × Stays h e left next × Leads left next rest new)
      ⊎ (Fell h e left × ServesEach left rest new))

  -- connections were taken, up to `count`, and served, as the source's log records. Their numbers rise from `last` to `number`
  pub record ServesRun (last number : ℕ) (old new : Docket S) (count : ℕ) (before after : Option (List Exchange)) (result : Result (Unit {0}) ServingFault) : Type 0 where
    pub exchanges : List Exchange
    pub logged : Logs before after exchanges
    pub ends : Ends count exchanges result
    pub rise : Rise last exchanges number
    pub each : ServesEach old exchanges new
    pub closed : old.closed ≡ true → (new ≡ old) × AreToldClosed routes exchanges
    pub leads : (h : History) → Stands g old h → HasCleanDisk (state g new.conn) → Leads old h exchanges new
