-- From the writing of a reply to what a connection gets.
use Rattle.std.proofs.Common.{◌≡◌, ◌⊎◌, ◌+◌, ◌++◌, [], inl, inr, ℕ, List, Option, None, Result, Ok, Err, IfOk, IfErr, true, false, length, take, take_at, length-append, refl, sym, ap, subst, ◌∙◌, arith}
use Rattle.std.proofs.KnownBytes.{Appends-trans}
use Rattle.std.specs.Io.KnownBytes.{Appends}
use Rattle.sqlite.specs.Store.{Ghosts}
use Rattle.sqlite.specs.State.{HasCleanDisk}
use Rattle.sqlite.specs.Held.{state}
use Rattle.court_days.specs.Court.{CourtSettings}
use Rattle.docket_calendar.specs.Calendar.{text_of_calendar}
use Rattle.docket_calendar.specs.Sending.{HasBegun}
use Rattle.docket_history.specs.Histories.{History}
use Rattle.docket_applying.specs.Applying.{Stands}
use Rattle.docket_applying.specs.Dockets.{Docket}
use Rattle.docket_applying.specs.Listing.{Lists}
use Rattle.docket_applying.specs.declared.fault.Fault.{Fault}
use Rattle.docket_applying.specs.declared.fault.Fault.TheVariants as fault
use Rattle.docket_applying.specs.declared.listing.ListingEnd.TheVariants as listing
use Rattle.line_io.specs.Output.{AppendsFront, HasFront}
use Rattle.http_request.specs.declared.page.Routes.{Routes}
use Rattle.http_request.specs.declared.wish.Wish.{Wish}
use Rattle.http_request.specs.declared.wish.Wish.TheVariants.{Calendar, Copy}
use Rattle.docket_http.specs.Answer.{fine, response_bytes, problem_response, problem_status, head_bytes}
use Rattle.docket_http.specs.Asking.{problem_of_fault}
use Rattle.docket_http.specs.Reply.{IsReply, reply_bytes, reply_status}
use Rattle.docket_http.specs.Serve.{Begins, Delivers, IsServed, IsCut, IsBroken, IsAsked, IsOfWriting, Serves, Fails, WantsCopy, fault_of_broken}
use Rattle.docket_http.specs.declared.head.Form.TheVariants.{OpenText}
use Rattle.docket_http.specs.declared.problem.Problem.{Problem}
use Rattle.docket_http.specs.declared.problem.Problem.TheVariants.{NoMemory}
use Rattle.docket_http.specs.declared.reply.Reply.{Reply}
use Rattle.docket_http.specs.declared.reply.Reply.TheVariants.{Fixed}
use Rattle.docket_http.specs.declared.fault.ServeFault.{ServeFault}
use Rattle.docket_http.specs.declared.fault.ServeFault.TheVariants as serve
use Rattle.docket_http.specs.declared.sending.Served.{Served}
use Rattle.docket_http.proofs.AskingLemmas.{Tells, problem_told, asked_replied, either_from_lasts}

front_of : (a b : Option (List ℕ)) (text : List ℕ) → HasFront a b text → AppendsFront a b text
front_of a b text f =
    let size : length text ≡ length f.out + length f.lost = ap length f.whole ∙ length-append f.out f.lost in
    record {
      count = length f.out;
      within = omega (arith, size);
      front = subst (λ (x : List ℕ). Appends a b x) (sym (ap (λ t. take (length f.out) t) f.whole ∙ take_at f.out f.lost (length f.out) refl)) f.appends;
    }

begins_of : (a b : Option (List ℕ)) (text : List ℕ) → HasBegun a b text → Begins a b text
unfolding front_of
begins_of a b text f = record { front = front_of a b text f.front; begun = f.begun }

-- what is written after nothing
nothing_front : (a b c : Option (List ℕ)) (x : List ℕ) → Appends a b [] → AppendsFront b c x → AppendsFront a c x
nothing_front a b c x k f = record { count = f.count; within = f.within; front = Appends-trans a b c [] (take f.count x) k f.front }

-- a failed write is a fault of writing an answer
pub writing_own : IsOfWriting serve.WriteFailed
writing_own = (λ is. absurd (cc), λ is. absurd (cc), λ is. absurd (cc))

pub of_writing : (r : Result Served ServeFault) (P : Type 0) → IfErr r (λ e. (e ≡ serve.WriteFailed) × P) → IfErr r IsOfWriting
of_writing (Ok s) P failed = tt
of_writing (Err e) P failed = subst IsOfWriting (sym failed.0) writing_own

pub not_unread : (r : Result Served ServeFault) (P : Type 0) → IfErr r IsOfWriting → IfErr r (λ e. (e ≡ serve.ReadFailed) ⊎ (e ≡ serve.EndedEarly) → P)
not_unread (Ok s) P own = tt
not_unread (Err e) P own = elim [ inl is ↦ absurd (own.0 is) | inr is ↦ absurd (own.1 is) ]

pub no_copy_wanted : (r : Result Served ServeFault) → IfErr r IsOfWriting → r ≡ Err serve.CopyWanted → ⊥
no_copy_wanted (Ok s) own is = absurd (cc)
no_copy_wanted (Err e) own is = let same : e ≡ serve.CopyWanted = cc in own.2 same

-- a request for a copy that was read
pub wants : {S : Type 0} (routes : Routes) (fresh : ℕ) (input : Option (List ℕ)) (wish : Wish) (body : List ℕ) (d : Docket S) → IsAsked routes fresh input wish body
    → (wish ≡ Copy) × (d.closed ≡ false) → WantsCopy routes fresh input d d
wants routes fresh input wish body d asked is = record { body = body; asked = subst (λ (w : Wish). IsAsked routes fresh input w body) is.0 asked; same = refl; serves = is.1 }

module _ {S : Type 0} (g : Ghosts S) where
  -- a reply that went out behind nothing, or a front of it
  pub delivered : (d : Docket S) (h : History) (wish : Wish) (body : List ℕ) (reply : Reply) (o m n : Option (List ℕ)) (r : Result Served ServeFault) → Tells g d h wish body reply
      → Appends o m []
      → IfOk r (λ s. Appends m n (reply_bytes reply) × (s.status ≡ reply_status reply))
      → IfErr r (λ e. (e ≡ serve.WriteFailed) × AppendsFront m n (reply_bytes reply))
      → Delivers g d h wish body o n r
  delivered d h wish body reply o m n (Ok s) tells nothing whole front = record {
    response = tells.0;
    answered = tells.2;
    written = subst (λ (b : List ℕ). Appends o n b) tells.1.0 (Appends-trans o m n [] (reply_bytes reply) nothing whole.0);
    status_told = whole.1 ∙ tells.1.1;
  }
  delivered d h wish body reply o m n (Err e) tells nothing whole front =
      let cut : IsCut g d h wish body o n = record {
        response = tells.0;
        answered = tells.2;
        front = subst (λ (b : List ℕ). AppendsFront o n b) tells.1.0 (nothing_front o m n (reply_bytes reply) nothing front.1);
      } in
      subst (λ (x : ServeFault). IsBroken g d h wish body o n x) (sym front.0) cut

  -- a request that was read
  pub read_whole : (d old : Docket S) (r : Result Served ServeFault) (routes : Routes) (fresh : ℕ) (input : Option (List ℕ)) (wish : Wish) (body : List ℕ) (o n : Option (List ℕ)) → IsAsked routes fresh input wish body
      → ((h : History) → Stands g old h → HasCleanDisk (state g d.conn) → Delivers g d h wish body o n r)
      → IfOk r (λ s. (h : History) → Stands g old h → HasCleanDisk (state g d.conn) → Serves g routes fresh input old d h o n s.status)
  read_whole d old (Err e) routes fresh input wish body o n asked delivers = tt
  read_whole d old (Ok s) routes fresh input wish body o n asked delivers = λ h stands clean. inl (wish, body, asked, delivers h stands clean)

  read_broken : (d old : Docket S) (e : ServeFault) (h : History) (routes : Routes) (fresh : ℕ) (input : Option (List ℕ)) (wish : Wish) (body : List ℕ) (o n : Option (List ℕ)) → IsAsked routes fresh input wish body
      → IsBroken g d h wish body o n e → Fails g routes fresh input old d h o n e
  read_broken d old serve.ReadFailed h routes fresh input wish body o n asked is = absurd is
  read_broken d old serve.EndedEarly h routes fresh input wish body o n asked is = absurd is
  read_broken d old serve.CopyWanted h routes fresh input wish body o n asked is = absurd is
  read_broken d old serve.WriteFailed h routes fresh input wish body o n asked is = inl (wish, body, asked, is)
  read_broken d old serve.NoMemory h routes fresh input wish body o n asked is = (wish, body, asked, is)
  read_broken d old serve.StoreFailed h routes fresh input wish body o n asked is = (wish, body, asked, is)

  pub read_fails : (d old : Docket S) (r : Result Served ServeFault) (routes : Routes) (fresh : ℕ) (input : Option (List ℕ)) (wish : Wish) (body : List ℕ) (o n : Option (List ℕ)) → IsAsked routes fresh input wish body
      → ((h : History) → Stands g old h → HasCleanDisk (state g d.conn) → Delivers g d h wish body o n r)
      → IfErr r (λ e. (h : History) → Stands g old h → HasCleanDisk (state g d.conn) → Fails g routes fresh input old d h o n e)
  read_fails d old (Ok s) routes fresh input wish body o n asked delivers = tt
  read_fails d old (Err e) routes fresh input wish body o n asked delivers = λ h stands clean. read_broken d old e h routes fresh input wish body o n asked (delivers h stands clean)

  -- memory ran out before the request was read
  pub unread_whole : (old : Docket S) (r : Result Served ServeFault) (routes : Routes) (fresh : ℕ) (input : Option (List ℕ)) (o n : Option (List ℕ))
      → IfOk r (λ s. Appends o n (response_bytes (problem_response NoMemory)) × (s.status ≡ 500))
      → IfOk r (λ s. (h : History) → Stands g old h → HasCleanDisk (state g old.conn) → Serves g routes fresh input old old h o n s.status)
  unread_whole old (Err e) routes fresh input o n whole = tt
  unread_whole old (Ok s) routes fresh input o n whole = λ h stands clean. inr (record { same = refl; written = whole.0; status_told = whole.1 })

  pub unread_fails : (old : Docket S) (r : Result Served ServeFault) (routes : Routes) (fresh : ℕ) (input : Option (List ℕ)) (o n : Option (List ℕ))
      → IfErr r (λ e. (e ≡ serve.WriteFailed) × AppendsFront o n (response_bytes (problem_response NoMemory)))
      → IfErr r (λ e. (h : History) → Stands g old h → HasCleanDisk (state g old.conn) → Fails g routes fresh input old old h o n e)
  unread_fails old (Ok s) routes fresh input o n front = tt
  unread_fails old (Err e) routes fresh input o n front = λ h stands clean. subst (λ (x : ServeFault). Fails g routes fresh input old old h o n x) (sym front.0) (inr (refl, front.1))

  pub calendar_told : (d : Docket S) (h : History) (from to : ℕ) (body front : List ℕ) (o m : Option (List ℕ)) (f : Fault) (p : Problem) → p ≡ problem_of_fault f → (f ≡ fault.StoreFailed → d.closed ≡ true)
      → Lists g d h from to front o m (Err (listing.NotBegun f)) → HasCleanDisk (state g d.conn) → Tells g d h (Calendar from to) body (Fixed p) × Appends o m []
  calendar_told d h from to body front o m f p e closes lists clean =
      let reports : IsReply (Fixed p) (problem_response (problem_of_fault f)) = (ap (λ q. response_bytes (problem_response q)) e, ap problem_status e) in
      (problem_told g d h (Calendar from to) body f (Fixed p) reports (asked_replied g d h (Calendar from to) body f (λ (lines : ℕ). ⊥) refl refl refl closes lists.0) clean, lists.1 clean)

  -- the bytes of a calendar's answer
  calendar_bytes : (court : CourtSettings) (h : History) (from to : ℕ) (front : List ℕ) → ((len : ℕ) → front ≡ head_bytes 200 OpenText len)
      → front ++ text_of_calendar court h from to ≡ response_bytes (fine OpenText (text_of_calendar court h from to))
  calendar_bytes court h from to front head = ap (λ x. x ++ text_of_calendar court h from to) (head (length (text_of_calendar court h from to)))

  pub calendar_served : (d : Docket S) (h : History) (from to : ℕ) (body front : List ℕ) (o n : Option (List ℕ)) (lines : ℕ)
      → ((len : ℕ) → front ≡ head_bytes 200 OpenText len) → Lists g d h from to front o n (Ok lines) → HasCleanDisk (state g d.conn)
      → IsServed g d h (Calendar from to) body o n 200
  calendar_served d h from to body front o n lines head lists clean = record {
    response = fine OpenText (text_of_calendar d.court h from to);
    answered = record { problem = None; is = refl; left = lists.0 };
    written = subst (λ (b : List ℕ). Appends o n b) (calendar_bytes d.court h from to front head) (lists.1 clean).0;
    status_told = refl;
  }

  pub calendar_cut : (d : Docket S) (h : History) (from to : ℕ) (body front : List ℕ) (o n : Option (List ℕ))
      → ((len : ℕ) → front ≡ head_bytes 200 OpenText len) → Lists g d h from to front o n (Err listing.WriteFailed) → HasCleanDisk (state g d.conn)
      → IsCut g d h (Calendar from to) body o n
  calendar_cut d h from to body front o n head lists clean = record {
    response = fine OpenText (text_of_calendar d.court h from to);
    answered = record { problem = None; is = refl; left = lists.0 };
    front = subst (λ (b : List ℕ). AppendsFront o n b) (calendar_bytes d.court h from to front head) (front_of o n _ (lists.1 clean));
  }

  pub calendar_broken : (d : Docket S) (h : History) (from to : ℕ) (body front : List ℕ) (o n : Option (List ℕ)) (f : Fault)
      → (f ≡ fault.StoreFailed → d.closed ≡ true) → ((len : ℕ) → front ≡ head_bytes 200 OpenText len) → Lists g d h from to front o n (Err (listing.Broken f)) → HasCleanDisk (state g d.conn)
      → IsBroken g d h (Calendar from to) body o n (fault_of_broken f)
  calendar_broken d h from to body front o n fault.NoMemory closes head lists clean =
      ((refl, inl lists.0), subst (λ (b : List ℕ). Begins o n b) (calendar_bytes d.court h from to front head) (begins_of o n _ (lists.1 clean)), λ built. built)
  calendar_broken d h from to body front o n fault.StoreFailed closes head lists clean =
      ((refl, either_from_lasts g d h lists.0, closes refl), subst (λ (b : List ℕ). Begins o n b) (calendar_bytes d.court h from to front head) (begins_of o n _ (lists.1 clean)), λ built. built)
  calendar_broken d h from to body front o n fault.Damaged closes head lists clean = absurd (lists.0 clean)
  calendar_broken d h from to body front o n fault.Closed closes head lists clean = absurd lists.0
  calendar_broken d h from to body front o n (fault.Refused r) closes head lists clean = absurd lists.0
