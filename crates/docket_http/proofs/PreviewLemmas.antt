-- What is told of a preview, by what was read of its form.
use Rattle.std.proofs.Common.{◌≡◌, ◌∙◌, ℕ, List, Result, ap}
use Rattle.court_days.specs.Court.{CourtSettings}
use Rattle.command_forms.specs.Forms.{command_in_form, pairs_in}
use Rattle.docket_command.specs.declared.command.Command.{Command}
use Rattle.docket_history.specs.Histories.{History}
use Rattle.docket_wire.specs.declared.fault.WireFault.{WireFault}
use Rattle.docket_http.specs.Entering.{closed_response, in_pages}
use Rattle.docket_http.specs.Previews.{preview_response, reading_previewed}

pub previewed : (court : CourtSettings) (h : History) (fresh : ℕ) (form : List ℕ) (pairs : List (List ℕ × List ℕ)) (read : Result Command WireFault) → pairs ≡ pairs_in form → read ≡ command_in_form form
    → reading_previewed court h fresh pairs read ≡ preview_response court h fresh form
previewed court h fresh form pairs read same spells = ap (λ ps. reading_previewed court h fresh ps read) same ∙ ap (reading_previewed court h fresh (pairs_in form)) spells

pub previewed_closed : (fresh : ℕ) (form : List ℕ) (pairs : List (List ℕ × List ℕ)) (read : Result Command WireFault) → pairs ≡ pairs_in form → read ≡ command_in_form form
    → closed_response (in_pages fresh pairs) read ≡ closed_response (in_pages fresh (pairs_in form)) (command_in_form form)
previewed_closed fresh form pairs read same spells = ap (λ ps. closed_response (in_pages fresh ps) read) same ∙ ap (closed_response (in_pages fresh (pairs_in form))) spells
