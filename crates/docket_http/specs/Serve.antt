-- What a connection gets, and what remains if it does not get it whole.
use Rattle.std.specs.Prelude.{◌≡◌, ◌≢◌, ◌≤◌, ◌⊎◌, ℕ, false, List, Option, Some, None, IfSome, Result, Ok, Err}
use Rattle.std.specs.Io.KnownBytes.{Appends, Keeps}
use Rattle.sqlite.specs.Store.{Ghosts}
use Rattle.docket_history.specs.Histories.{History}
use Rattle.docket_applying.specs.Dockets.{Docket}
use Rattle.docket_applying.specs.declared.fault.Fault.{Fault}
use Rattle.docket_applying.specs.declared.fault.Fault.TheVariants as fault
use Rattle.line_io.specs.Output.{AppendsFront}
use Rattle.http_request.specs.Request.{IsRequest, EndsEarly}
use Rattle.http_request.specs.declared.page.Routes.{Routes}
use Rattle.http_request.specs.declared.wish.Wish.{Wish}
use Rattle.http_request.specs.declared.wish.Wish.TheVariants.{Copy}
use Rattle.docket_http.specs.Answer.{Response, fine, response_bytes, problem_page, problem_response}
use Rattle.docket_http.specs.Asking.{IsAnswered, IsBuilt, IsClosedAnswer, LeftBy, response_to}
use Rattle.docket_http.specs.declared.head.Form.TheVariants.{File}
use Rattle.docket_http.specs.declared.problem.Problem.TheVariants.{NoCopy, NoMemory, Store}
use Rattle.docket_http.specs.declared.fault.ServeFault.{ServeFault}
use Rattle.docket_http.specs.declared.fault.ServeFault.TheVariants as serve
use Rattle.docket_http.specs.declared.sending.Served.{Served}

-- the fault of a calendar whose docket failed after the calendar had begun
abbrev pub fault_of_broken : Fault → ServeFault
fault_of_broken fault.NoMemory = serve.NoMemory
fault_of_broken fault.StoreFailed = serve.StoreFailed
fault_of_broken fault.Closed = serve.StoreFailed
fault_of_broken fault.Damaged = serve.StoreFailed
fault_of_broken (fault.Refused r) = serve.StoreFailed

-- a fault of writing an answer: the request was read, and no copy is wanted
abbrev pub IsOfWriting : ServeFault → Type 0
IsOfWriting e = (e ≢ serve.ReadFailed) × (e ≢ serve.EndedEarly) × (e ≢ serve.CopyWanted)

-- a front of the bytes went out, and it is not empty
pub record Begins (before after : Option (List ℕ)) (bytes : List ℕ) : Type 0 where
  pub front : AppendsFront before after bytes
  pub begun : 1 ≤ front.count

-- the input, if it is known, asks for this, where these routes are served; the number is that of the connection
abbrev pub IsAsked : Routes → ℕ → Option (List ℕ) → Wish → List ℕ → Type 0
IsAsked routes fresh input wish body = IfSome input (λ bytes. IsRequest routes fresh bytes wish body)

-- the answer went out, or, if the writer failed, a front of it
abbrev pub Sends : Response → Option (List ℕ) → Option (List ℕ) → Result Served ServeFault → Type 0
Sends response before after (Ok served) = Appends before after (response_bytes response) × (served.status ≡ response.status)
Sends response before after (Err serve.WriteFailed) = AppendsFront before after (response_bytes response)
Sends response before after (Err _) = ⊥

-- the answer if a copy of the docket's file was made, and if none was; memory may run out for the head of a copy
abbrev pub IsCopyAnswer : Option (List ℕ) → Response → Type 0
IsCopyAnswer None response = response ≡ problem_page NoCopy
IsCopyAnswer (Some copy) response = (response ≡ fine File copy) ⊎ (response ≡ problem_page NoMemory)

-- such an answer went out, or a front of it
pub record SendsCopy (copy : Option (List ℕ)) (before after : Option (List ℕ)) (result : Result Served ServeFault) : Type 0 where
  pub response : Response
  pub is : IsCopyAnswer copy response
  pub sent : Sends response before after result

-- the request asks for a copy of the docket's file, which the docket does not send itself: it is as it was, and not closed
pub record WantsCopy {S : Type 0} (routes : Routes) (fresh : ℕ) (input : Option (List ℕ)) (old new : Docket S) : Type 0 where
  pub body : List ℕ
  pub asked : IsAsked routes fresh input Copy body
  pub same : new ≡ old
  pub serves : old.closed ≡ false

-- a closed docket's answer to this went out, or a front of it
pub record SendsClosed (wish : Wish) (body : List ℕ) (before after : Option (List ℕ)) (result : Result Served ServeFault) : Type 0 where
  pub response : Response
  pub closed : IsClosedAnswer wish body response
  pub sent : Sends response before after result

-- what a connection gets on a closed docket: the answer to its request, or that memory ran out before the request was read whole
abbrev pub ServesClosed : Routes → ℕ → Option (List ℕ) → Option (List ℕ) → Option (List ℕ) → Result Served ServeFault → Type 0
ServesClosed routes fresh input before after (Err serve.ReadFailed) = Keeps before after
ServesClosed routes fresh input before after (Err serve.EndedEarly) = Keeps before after × IfSome input (EndsEarly routes)
ServesClosed routes fresh input before after (Err serve.CopyWanted) = ⊥
ServesClosed routes fresh input before after result =
    ((wish : Wish) × (body : List ℕ) × IsAsked routes fresh input wish body × SendsClosed wish body before after result)
    ⊎ Sends (problem_response NoMemory) before after result

module _ {S : Type 0} (g : Ghosts S) where
  -- an answer went out whole, and the docket is as it reports
  pub record IsServed (d : Docket S) (h : History) (wish : Wish) (body : List ℕ) (before after : Option (List ℕ)) (status : ℕ) : Type 0 where
    pub response : Response
    pub answered : IsAnswered g d h wish body response
    pub written : Appends before after (response_bytes response)
    pub status_told : status ≡ response.status

  -- a front of an answer went out, and the docket is as the answer reports
  pub record IsCut (d : Docket S) (h : History) (wish : Wish) (body : List ℕ) (before after : Option (List ℕ)) : Type 0 where
    pub response : Response
    pub answered : IsAnswered g d h wish body response
    pub front : AppendsFront before after (response_bytes response)

  -- what remains of a request that was read and not answered whole: the writer failed, or a calendar had begun and memory ran out or the
  -- database failed
  abbrev pub IsBroken : Docket S → History → Wish → List ℕ → Option (List ℕ) → Option (List ℕ) → ServeFault → Type 0
  IsBroken d h wish body before after serve.WriteFailed = IsCut d h wish body before after
  IsBroken d h wish body before after serve.NoMemory =
      LeftBy g (Some NoMemory) d h wish body × Begins before after (response_bytes (response_to d.court h wish body)) × (IsBuilt wish → ⊥)
  IsBroken d h wish body before after serve.StoreFailed =
      LeftBy g (Some Store) d h wish body × Begins before after (response_bytes (response_to d.court h wish body)) × (IsBuilt wish → ⊥)
  IsBroken d h wish body before after _ = ⊥

  -- the outcome of a request that was read
  abbrev pub Delivers : Docket S → History → Wish → List ℕ → Option (List ℕ) → Option (List ℕ) → Result Served ServeFault → Type 0
  Delivers d h wish body before after (Ok served) = IsServed d h wish body before after served.status
  Delivers d h wish body before after (Err e) = IsBroken d h wish body before after e

  -- memory ran out before the request was read whole, and the answer says so
  pub record GivesUp (old new : Docket S) (before after : Option (List ℕ)) (status : ℕ) : Type 0 where
    pub same : new ≡ old
    pub written : Appends before after (response_bytes (problem_response NoMemory))
    pub status_told : status ≡ 500

  -- a connection was served: it got the answer to its request, or that memory ran out before the request was read whole
  abbrev pub Serves : Routes → ℕ → Option (List ℕ) → Docket S → Docket S → History → Option (List ℕ) → Option (List ℕ) → ℕ → Type 0
  Serves routes fresh input old new h before after status =
      ((wish : Wish) × (body : List ℕ) × IsAsked routes fresh input wish body × IsServed new h wish body before after status)
      ⊎ GivesUp old new before after status

  abbrev pub Unserved : Routes → ℕ → Option (List ℕ) → Docket S → Docket S → History → Option (List ℕ) → Option (List ℕ) → ServeFault → Type 0
  Unserved routes fresh input old new h before after e =
      (wish : Wish) × (body : List ℕ) × IsAsked routes fresh input wish body × IsBroken new h wish body before after e

  -- a connection was not served whole: if reading failed or the input ended early, or a copy is wanted, nothing was written and the docket is as
  -- it was
  abbrev pub Fails : Routes → ℕ → Option (List ℕ) → Docket S → Docket S → History → Option (List ℕ) → Option (List ℕ) → ServeFault → Type 0
  Fails routes fresh input old new h before after serve.ReadFailed = (new ≡ old) × Keeps before after
  Fails routes fresh input old new h before after serve.EndedEarly = (new ≡ old) × Keeps before after × IfSome input (EndsEarly routes)
  Fails routes fresh input old new h before after serve.CopyWanted = WantsCopy routes fresh input old new × (after ≡ before)
  Fails routes fresh input old new h before after serve.WriteFailed =
      Unserved routes fresh input old new h before after serve.WriteFailed
      ⊎ ((new ≡ old) × AppendsFront before after (response_bytes (problem_response NoMemory)))
  Fails routes fresh input old new h before after serve.NoMemory = Unserved routes fresh input old new h before after serve.NoMemory
  Fails routes fresh input old new h before after serve.StoreFailed = Unserved routes fresh input old new h before after serve.StoreFailed
