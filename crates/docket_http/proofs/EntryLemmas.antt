-- What is true of each request that enters a command.
use Rattle.std.proofs.Common.{◌≡◌, IsTrue, ℕ, List, Some, refl, subst}
use Rattle.court_days.specs.Court.{CourtSettings}
use Rattle.docket_history.specs.Histories.{History}
use Rattle.http_request.specs.declared.wish.Wish.{Wish}
use Rattle.http_request.specs.declared.wish.Wish.TheVariants.{Reject, Refuse, Command as CommandWish, Form as FormWish, Preview, Case, Deadlines, Calendar, Holidays, Page as PageWish, Export as ExportWish, Copy}
use Rattle.docket_http.specs.Answer.{Response}
use Rattle.docket_http.specs.Asking.{IsClosedAnswer, IsUnlessShort, asks_docket, is_of_pages, response_to, takes_memory}
use Rattle.docket_http.specs.Entering.{Entry, closed_entry, entry_of, entry_response, form_entry, is_for_browser, line_entry}

pub record IsEntering (wish : Wish) (body : List ℕ) (e : Entry) : Type 0 where
  pub response : (court : CourtSettings) (h : History) → response_to court h wish body ≡ entry_response court h e
  pub asks : IsTrue (asks_docket wish)
  pub takes : IsTrue (takes_memory wish)
  pub browser : is_of_pages wish ≡ is_for_browser e.manner
  pub closed : (response : Response) → IsUnlessShort (is_of_pages wish) (closed_entry e) response → IsClosedAnswer wish body response

entering_as : (wish : Wish) (body : List ℕ) (a e : Entry) → Some a ≡ Some e → IsEntering wish body a → IsEntering wish body e
entering_as wish body a e is entering = let same : a ≡ e = cc in subst (λ (x : Entry). IsEntering wish body x) same entering

pub entering : (wish : Wish) (body : List ℕ) (e : Entry) → entry_of wish body ≡ Some e → IsEntering wish body e
entering (CommandWish len) body e is =
    entering_as (CommandWish len) body (line_entry body) e is (record { response = λ court h. refl; asks = refl; takes = refl; browser = refl; closed = λ response closed. closed })
entering (FormWish len fresh) body e is =
    entering_as (FormWish len fresh) body (form_entry fresh body) e is (record { response = λ court h. refl; asks = refl; takes = refl; browser = refl; closed = λ response closed. closed })
entering (Reject r) body e is = absurd (cc)
entering (Refuse r) body e is = absurd (cc)
entering (Preview len fresh) body e is = absurd (cc)
entering (Case number) body e is = absurd (cc)
entering (Deadlines number) body e is = absurd (cc)
entering (Calendar from to) body e is = absurd (cc)
entering (Holidays year) body e is = absurd (cc)
entering (PageWish page fresh) body e is = absurd (cc)
entering (ExportWish form days fresh) body e is = absurd (cc)
entering Copy body e is = absurd (cc)
