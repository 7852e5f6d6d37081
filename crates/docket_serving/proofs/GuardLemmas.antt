-- A connection changes a docket by what the guard lets through.
use Rattle.std.proofs.Common.{◌≡◌, ◌⊎◌, ℕ, List, Option, Some, None, IfSome, inl, inr, ◌∙◌}
use Rattle.court_days.specs.Court.{CourtSettings}
use Rattle.docket_history.specs.Histories.{History}
use Rattle.http_request.specs.Request.{IsLetThrough}
use Rattle.http_request.specs.declared.page.Routes.{Routes}
use Rattle.http_request.specs.declared.wish.Wish.{Wish}
use Rattle.docket_http.specs.Asking.{history_after}
use Rattle.docket_http.specs.Serve.{IsAsked}
use Rattle.docket_http.proofs.GuardLemmas.{let_through}

pub let_through_to : (routes : Routes) (number : ℕ) (court : CourtSettings) (h next : History) (input : Option (List ℕ))
    → (next ≡ h) ⊎ ((wish : Wish) × (body : List ℕ) × IsAsked routes number input wish body × (next ≡ history_after court h wish body))
    → ¬ (next ≡ h) → IfSome input (IsLetThrough routes)
let_through_to routes number court h next input (inl same) changes = absurd (changes same)
let_through_to routes number court h next None (inr led) changes = tt
let_through_to routes number court h next (Some bytes) (inr (wish, body, asked, is)) changes =
    let_through routes number bytes wish body court h asked (λ same. changes (is ∙ same))
