-- What a preview of a form tells: what its command would do, where nothing is entered.
use Rattle.std.specs.Prelude.{ℕ, List, Result, Ok, Err, codes}
use Rattle.court_days.specs.Court.{CourtSettings}
use Rattle.command_forms.specs.Forms.{command_in_form, pairs_in}
use Rattle.docket_command.specs.declared.command.Command.{Command}
use Rattle.docket_history.specs.Histories.{History}
use Rattle.docket_decisions.specs.Outcomes.{Answer, accepted, repeated, refused, outcome}
use Rattle.docket_questions.specs.Foreseeing.{foreseen_text}
use Rattle.docket_wire.specs.declared.fault.WireFault.{WireFault}
use Rattle.entry_pages.specs.Pages.{form_again}
use Rattle.entry_pages.specs.Saying as saying
use Rattle.docket_http.specs.Answer.{Response, page}
use Rattle.docket_http.specs.Entering.{fault_response, in_pages, page_said}

-- what is told of a form that was entered before
abbrev pub known_words : List ℕ
known_words = codes "This form was entered already. The button Enter enters it a second time."

-- the form again, with what its command would do, or with the refusal that entering it would meet
abbrev pub outcome_previewed : CourtSettings → History → ℕ → List (List ℕ × List ℕ) → Command → Answer → Response
outcome_previewed court h fresh pairs c (accepted reply) = page 200 (form_again fresh pairs (saying.foreseen (foreseen_text court h c)))
outcome_previewed court h fresh pairs c (repeated reply) = page 200 (form_again fresh pairs (saying.foreseen known_words))
outcome_previewed court h fresh pairs c (refused r) = page_said fresh pairs c (Err r)

-- or with the fault for which it spells no command
abbrev pub reading_previewed : CourtSettings → History → ℕ → List (List ℕ × List ℕ) → Result Command WireFault → Response
reading_previewed court h fresh pairs (Ok c) = outcome_previewed court h fresh pairs c (outcome court h c)
reading_previewed court h fresh pairs (Err fault) = fault_response (in_pages fresh pairs) fault

abbrev pub preview_response : CourtSettings → History → ℕ → List ℕ → Response
preview_response court h fresh form = reading_previewed court h fresh (pairs_in form) (command_in_form form)
