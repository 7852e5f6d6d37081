-- A docket changes by what the guard lets through.
use Rattle.std.proofs.Common.{◌≡◌, ℕ, List, refl}
use Rattle.court_days.specs.Court.{CourtSettings}
use Rattle.docket_history.specs.Histories.{History}
use Rattle.http_request.specs.Head.{head_of}
use Rattle.http_request.specs.Request.{IsRequest, IsLetThrough}
use Rattle.http_request.specs.declared.page.Routes.{Routes}
use Rattle.http_request.specs.declared.wish.Wish.{Wish}
use Rattle.http_request.specs.declared.wish.Wish.TheVariants.{Reject, Refuse, Command, Form, Preview, Case, Deadlines, Calendar, Holidays, Page, Export, Copy}
use Rattle.http_request.proofs.GuardLemmas.{let_through_by}
use Rattle.docket_http.specs.Asking.{history_after}

pub let_through : (routes : Routes) (fresh : ℕ) (input : List ℕ) (wish : Wish) (body : List ℕ) (court : CourtSettings) (h : History)
    → IsRequest routes fresh input wish body → ¬ (history_after court h wish body ≡ h) → IsLetThrough routes input
let_through routes fresh input (Reject r) body court h is changes = absurd (changes refl)
let_through routes fresh input (Refuse r) body court h is changes = absurd (changes refl)
let_through routes fresh input (Command n) body court h is changes = let_through_by routes fresh (head_of input) input (Command n) body refl is refl
let_through routes fresh input (Form n k) body court h is changes = let_through_by routes fresh (head_of input) input (Form n k) body refl is refl
let_through routes fresh input (Preview n k) body court h is changes = absurd (changes refl)
let_through routes fresh input (Case n) body court h is changes = absurd (changes refl)
let_through routes fresh input (Deadlines n) body court h is changes = absurd (changes refl)
let_through routes fresh input (Calendar from to) body court h is changes = absurd (changes refl)
let_through routes fresh input (Holidays year) body court h is changes = absurd (changes refl)
let_through routes fresh input (Page page n) body court h is changes = absurd (changes refl)
let_through routes fresh input (Export form days n) body court h is changes = absurd (changes refl)
let_through routes fresh input Copy body court h is changes = absurd (changes refl)
