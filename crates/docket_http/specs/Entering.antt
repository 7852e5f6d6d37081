-- Requests that enter a command: which command each spells, and how its outcome is written.
use Rattle.std.specs.Prelude.{ℕ, Bool, true, false, List, Option, Some, None, Result, Ok, Err}
use Rattle.court_days.specs.Court.{CourtSettings}
use Rattle.command_forms.specs.Forms.{command_in_form, pairs_in, texts_of}
use Rattle.docket_command.specs.declared.command.Command.{Command}
use Rattle.docket_command.specs.declared.refusal.Refusal.{Refusal}
use Rattle.docket_command.specs.declared.refusal.Reply.{Reply as Number}
use Rattle.docket_history.specs.Histories.{History}
use Rattle.docket_decisions.specs.Outcomes.{Answer, accepted, repeated, refused, outcome, after}
use Rattle.docket_wire.specs.Reading.{command_in}
use Rattle.docket_wire.specs.Texts.{reply_text, fault_text}
use Rattle.docket_wire.specs.declared.fault.WireFault.{WireFault}
use Rattle.entry_pages.specs.Pages.{form_again}
use Rattle.entry_pages.specs.Saying as saying
use Rattle.http_request.specs.declared.wish.Wish.{Wish}
use Rattle.http_request.specs.declared.wish.Wish.TheVariants.{Command as CommandWish, Form as FormWish}
use Rattle.docket_http.specs.Answer.{Response, json, page, problem_said, seen}
use Rattle.docket_http.specs.Places.{place_after}
use Rattle.docket_http.specs.declared.problem.Problem.TheVariants.{Closed}
use Rattle.docket_http.specs.declared.writing.Writing.{Writing}
use Rattle.docket_http.specs.declared.writing.Writing.TheVariants.{Json, Pages}

-- how an outcome is written: as JSON, or for the browser that sent a form of these pairs. The number makes the key of the form that it gets
-- again
pub data Manner : Type 0 where
  in_json : Manner
  in_pages : ℕ → List (List ℕ × List ℕ) → Manner

abbrev pub manner_of : Writing → Manner
manner_of Json = in_json
manner_of (Pages fresh pairs) = in_pages fresh (texts_of pairs.items)

-- the status of a reply, and of a refusal
abbrev pub said_status : Result Number Refusal → ℕ
said_status (Ok reply) = 200
said_status (Err r) = 409

-- a browser is led to what an accepted command has changed, and gets the form of a refused one again, with the refusal
abbrev pub page_said : ℕ → List (List ℕ × List ℕ) → Command → Result Number Refusal → Response
page_said fresh pairs c (Ok reply) = seen (place_after c reply)
page_said fresh pairs c (Err r) = page 409 (form_again fresh pairs (saying.refused r))

-- the answer to a command, by its reply or its refusal
abbrev pub said_response : Manner → Command → Result Number Refusal → Response
said_response in_json c said = json (said_status said) (reply_text said)
said_response (in_pages fresh pairs) c said = page_said fresh pairs c said

-- the answer where no command is spelled: the fault, or the form again with it
abbrev pub fault_response : Manner → WireFault → Response
fault_response in_json fault = json 400 (fault_text fault)
fault_response (in_pages fresh pairs) fault = page 400 (form_again fresh pairs (saying.faulty fault))

-- a repeat gets the answer that the command got at first
abbrev pub outcome_response : Manner → Command → Answer → Response
outcome_response manner c (accepted reply) = said_response manner c (Ok reply)
outcome_response manner c (repeated reply) = said_response manner c (Ok reply)
outcome_response manner c (refused r) = said_response manner c (Err r)

abbrev pub command_response : CourtSettings → History → Manner → Result Command WireFault → Response
command_response court h manner (Ok c) = outcome_response manner c (outcome court h c)
command_response court h manner (Err fault) = fault_response manner fault

-- only an accepted command adds to the history
abbrev pub after_reading : CourtSettings → History → Result Command WireFault → History
after_reading court h (Ok c) = after court h c
after_reading court h (Err fault) = h

-- whether an outcome is written for a browser
abbrev pub is_for_browser : Manner → Bool
is_for_browser in_json = false
is_for_browser (in_pages fresh pairs) = true

-- a closed docket takes no command; the answer where none is spelled is the same
abbrev pub closed_response : Manner → Result Command WireFault → Response
closed_response manner (Ok c) = problem_said (is_for_browser manner) Closed
closed_response manner (Err fault) = fault_response manner fault

-- what a request enters: the command that it spells, or the fault of its text; and how the outcome is written
pub record Entry : Type 0 where
  pub read : Result Command WireFault
  pub manner : Manner

-- a line of JSON, and a form
abbrev pub line_entry : List ℕ → Entry
line_entry body = record { read = command_in body; manner = in_json }

abbrev pub form_entry : ℕ → List ℕ → Entry
form_entry fresh form = record { read = command_in_form form; manner = in_pages fresh (pairs_in form) }

abbrev pub entry_of : Wish → List ℕ → Option Entry
entry_of (CommandWish len) body = Some (line_entry body)
entry_of (FormWish len fresh) body = Some (form_entry fresh body)
entry_of _ body = None

abbrev pub entry_response : CourtSettings → History → Entry → Response
entry_response court h e = command_response court h e.manner e.read

abbrev pub closed_entry : Entry → Response
closed_entry e = closed_response e.manner e.read
