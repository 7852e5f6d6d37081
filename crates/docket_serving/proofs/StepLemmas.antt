-- What one connection leaves of the docket of a history.
use Rattle.std.proofs.Common.{◌≡◌, ◌==◌, ◌⊎◌, inl, inr, ℕ, true, false, List, Option, Some, None, Result, Ok, Err, refl, sym, ap, subst, ◌∙◌}
use Rattle.sqlite.specs.Store.{Ghosts}
use Rattle.docket_history.specs.Histories.{History}
use Rattle.docket_tables.specs.Stands.{LastsAsEither}
use Rattle.docket_applying.specs.Applying.{Stands, docket_rows}
use Rattle.docket_applying.specs.Dockets.{Docket}
use Rattle.http_request.specs.declared.page.Routes.{Routes}
use Rattle.http_request.specs.declared.wish.Wish.{Wish}
use Rattle.docket_http.specs.Asking.{IsAnswered, history_after}
use Rattle.docket_http.specs.Serve.{IsAsked}
use Rattle.docket_http.specs.declared.fault.ServeFault.{ServeFault}
use Rattle.docket_http.specs.declared.fault.ServeFault.TheVariants as serve
use Rattle.docket_http.specs.declared.sending.Served.{Served}
use Rattle.docket_http.proofs.LeftLemmas.{Left, left as split}
use Rattle.docket_serving.specs.Exchanges.{Exchange, tells_failure}
use Rattle.docket_http.specs.Answer.{Response}
use Rattle.docket_http.specs.Serve.{IsCopyAnswer, SendsCopy}
use Rattle.docket_serving.specs.Serving.{Answers, AnswersOf, Fell, IsNext, Stays}

-- the answer to a request for a copy went out whole, or the writer failed
pub by_copy : {copy before after : Option (List ℕ)} (P : Result Served ServeFault → Type 0) → ((served : Served) → SendsCopy copy before after (Ok served) → P (Ok served)) → P (Err serve.WriteFailed)
    → (end : Result Served ServeFault) → SendsCopy copy before after end → P end
by_copy P whole failed (Ok served) sends = whole served sends
by_copy P whole failed (Err serve.WriteFailed) sends = failed
by_copy P whole failed (Err serve.ReadFailed) sends = absurd sends.sent
by_copy P whole failed (Err serve.EndedEarly) sends = absurd sends.sent
by_copy P whole failed (Err serve.NoMemory) sends = absurd sends.sent
by_copy P whole failed (Err serve.StoreFailed) sends = absurd sends.sent
by_copy P whole failed (Err serve.CopyWanted) sends = absurd sends.sent

module _ {S : Type 0} (g : Ghosts S) (routes : Routes) where
  -- the docket of a history, or one that fell
  abbrev pub Leaves : History → Exchange → Docket S → Type 0
  Leaves h e left = ((next : History) × Stays g routes h e left next) ⊎ Fell g routes h e left

  left_same : (old left : Docket S) (h : History) (e : Exchange) → left ≡ old → Stands g old h → tells_failure e.end ≡ false → Leaves h e left
  left_same old left h e same stands told =
      inl (h, record { is = inl refl; stands = subst (λ (d : Docket S). Stands g d h) (sym same) stands; told = told })

  module _ (left : Docket S) (h : History) (e : Exchange) (wish : Wish) (body : List ℕ) (asked : IsAsked routes e.number e.input wish body) where
    after : IsNext routes left.court h e (history_after left.court h wish body)
    after = inr (wish, body, asked, refl)

    left_after : Stands g left (history_after left.court h wish body) → tells_failure e.end ≡ false → Leaves h e left
    left_after stands told = inl (history_after left.court h wish body, record { is = after; stands = stands; told = told })

    left_either : Stands g left h ⊎ Stands g left (history_after left.court h wish body) → tells_failure e.end ≡ false → Leaves h e left
    left_either (inl stands) told = inl (h, record { is = inl refl; stands = stands; told = told })
    left_either (inr stands) told = left_after stands told

    fell : LastsAsEither g left.conn (docket_rows left.court h) (docket_rows left.court (history_after left.court h wish body)) → left.closed ≡ true
        → (tells_failure e.end ≡ true) ⊎ (e.end ≡ Err serve.WriteFailed) → Leaves h e left
    fell lasts closed told = inr (record { next = history_after left.court h wish body; is = after; lasts = lasts; closed = closed; told = told })

    left_as : (response : Response) → Left g left h wish body response → ((response.status == 503) ≡ false → tells_failure e.end ≡ false)
        → ((response.status == 503) ≡ true → (tells_failure e.end ≡ true) ⊎ (e.end ≡ Err serve.WriteFailed)) → Leaves h e left
    left_as response (inl stands) fine failed = left_either stands.0 (fine stands.1)
    left_as response (inr lasts) fine failed = fell lasts.0 lasts.2 (failed lasts.1)

    -- an answer, of which so much went out
    left_told : (response : Response) → IsAnswered g left h wish body response → ((response.status == 503) ≡ false → tells_failure e.end ≡ false)
        → ((response.status == 503) ≡ true → (tells_failure e.end ≡ true) ⊎ (e.end ≡ Err serve.WriteFailed)) → Leaves h e left
    left_told response answered fine failed = left_as response (split g left h wish body response answered) fine failed

  -- no answer to a request for a copy has status 503
  copy_fine : (copy : Option (List ℕ)) (response : Response) → IsCopyAnswer copy response → (response.status == 503) ≡ false
  copy_fine None response is = ap (λ (r : Response). r.status == 503) is
  copy_fine (Some bytes) response (inl is) = ap (λ (r : Response). r.status == 503) is
  copy_fine (Some bytes) response (inr is) = ap (λ (r : Response). r.status == 503) is

  copy_told : (copy : Option (List ℕ)) (before after : Option (List ℕ)) (end : Result Served ServeFault) → SendsCopy copy before after end → tells_failure end ≡ false
  copy_told copy _ _ =
      by_copy (λ ended. tells_failure ended ≡ false) (λ served sends. ap (λ k. k == 503) sends.sent.1 ∙ copy_fine copy sends.response sends.is) refl

  leaves_of : (old left : Docket S) (h : History) (e : Exchange) (end : Result Served ServeFault) → e.end ≡ end → Stands g old h → AnswersOf g routes old left h e end → Leaves h e left
  leaves_of old left h e (Ok served) ended stands (inl is) =
      let now : tells_failure e.end ≡ (is.3.response.status == 503) = ap tells_failure ended ∙ ap (λ n. n == 503) is.3.status_told in
      left_told left h e is.0 is.1 is.2 is.3.response is.3.answered (λ fine. now ∙ fine) (λ failed. inl (now ∙ failed))
  leaves_of old left h e (Ok served) ended stands (inr is) = left_same old left h e is.same stands (ap tells_failure ended ∙ ap (λ n. n == 503) is.status_told)
  leaves_of old left h e (Err serve.ReadFailed) ended stands is = left_same old left h e is.0 stands (ap tells_failure ended)
  leaves_of old left h e (Err serve.EndedEarly) ended stands is = left_same old left h e is.0 stands (ap tells_failure ended)
  leaves_of old left h e (Err serve.WriteFailed) ended stands (inl is) =
      left_told left h e is.0 is.1 is.2 is.3.response is.3.answered (λ fine. ap tells_failure ended) (λ failed. inr ended)
  leaves_of old left h e (Err serve.WriteFailed) ended stands (inr is) = left_same old left h e is.0 stands (ap tells_failure ended)
  leaves_of old left h e (Err serve.NoMemory) ended stands is = left_either left h e is.0 is.1 is.2 is.3.0.1 (ap tells_failure ended)
  leaves_of old left h e (Err serve.StoreFailed) ended stands is = fell left h e is.0 is.1 is.2 is.3.0.1 is.3.0.2 (inl (ap tells_failure ended))
  leaves_of old left h e (Err serve.CopyWanted) ended stands is = left_same old left h e is.0.same stands (ap tells_failure ended)

  pub leaves : (old left : Docket S) (h : History) (e : Exchange) → Stands g old h → Answers g routes old left h e → Leaves h e left
  leaves old left h e stands (inl answers) = leaves_of old left h e e.end refl stands answers
  leaves old left h e stands (inr copied) = left_same old left h e copied.same stands (copy_told copied.gives.0 e.before e.after e.end copied.gives.2)
