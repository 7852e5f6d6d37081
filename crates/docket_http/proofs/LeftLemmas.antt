-- What an answer leaves of the docket of a history, whatever was sent.
use Rattle.std.proofs.Common.{◌≡◌, ◌==◌, ◌⊎◌, inl, inr, ℕ, Bool, true, false, List, Option, Some, None, Result, Ok, Err, refl, ap, ◌∙◌}
use Rattle.sqlite.specs.Store.{Ghosts}
use Rattle.court_days.specs.Court.{CourtSettings}
use Rattle.command_forms.specs.Forms.{command_in_form, pairs_in}
use Rattle.docket_command.specs.declared.command.Command.{Command}
use Rattle.docket_command.specs.declared.refusal.Refusal.{Refusal}
use Rattle.docket_command.specs.declared.refusal.Reply.{Reply as Number}
use Rattle.docket_history.specs.Histories.{History}
use Rattle.docket_decisions.specs.Outcomes.{Answer, accepted, outcome, refused, repeated}
use Rattle.docket_questions.specs.Texts.{text_of_case, text_of_deadlines}
use Rattle.docket_tables.specs.Stands.{LastsAsEither}
use Rattle.docket_applying.specs.Applying.{Stands, docket_rows}
use Rattle.docket_applying.specs.Dockets.{Docket}
use Rattle.docket_wire.specs.Reading.{command_in}
use Rattle.docket_wire.specs.declared.fault.WireFault.{WireFault}
use Rattle.http_request.specs.declared.fields.Rejection.{Rejection}
use Rattle.http_request.specs.declared.fields.Rejection.TheVariants as rejection
use Rattle.http_request.specs.declared.wish.Wish.{Wish}
use Rattle.http_request.specs.declared.wish.Wish.TheVariants.{Reject, Refuse, Command as CommandWish, Form as FormWish, Preview, Case, Deadlines, Calendar, Holidays, Page as PageWish, Export as ExportWish, Copy}
use Rattle.docket_http.specs.Answer.{Response, found, problem_said, rejection_status}
use Rattle.docket_http.specs.Asking.{IsAnswered, LeftBy, history_after, is_of_pages, response_to, text_of_page, told}
use Rattle.docket_http.specs.Entering.{Manner, in_json, in_pages, command_response, outcome_response, said_response}
use Rattle.docket_http.specs.Previews.{outcome_previewed, reading_previewed}
use Rattle.docket_http.specs.declared.head.Form.{Form}
use Rattle.docket_http.specs.declared.head.Form.TheVariants.{Export, File, Html, Json, OpenText, Seen, Text}
use Rattle.docket_http.specs.declared.problem.Problem.{Problem}
use Rattle.docket_http.specs.declared.problem.Problem.TheVariants.{Rejected, NoSuchCase, NoCopy, NoMemory, Store, Closed, Damaged}

-- no answer to a request has status 503

rejected_fine : (r : Rejection) → (rejection_status r == 503) ≡ false
rejected_fine rejection.HeadTooLong = refl
rejected_fine rejection.BadHead = refl
rejected_fine rejection.NotFound = refl
rejected_fine rejection.Method = refl
rejected_fine rejection.BadPathValue = refl
rejected_fine rejection.LengthRequired = refl
rejected_fine rejection.TooLong = refl
rejected_fine rejection.Foreign = refl
rejected_fine rejection.MediaType = refl

said_fine : (manner : Manner) (c : Command) (said : Result Number Refusal) → ((said_response manner c said).status == 503) ≡ false
said_fine in_json c (Ok reply) = refl
said_fine in_json c (Err r) = refl
said_fine (in_pages fresh pairs) c (Ok reply) = refl
said_fine (in_pages fresh pairs) c (Err r) = refl

outcome_fine : (manner : Manner) (c : Command) (a : Answer) → ((outcome_response manner c a).status == 503) ≡ false
outcome_fine manner c (accepted reply) = said_fine manner c (Ok reply)
outcome_fine manner c (repeated reply) = said_fine manner c (Ok reply)
outcome_fine manner c (refused r) = said_fine manner c (Err r)

command_fine : (court : CourtSettings) (h : History) (manner : Manner) (r : Result Command WireFault) → ((command_response court h manner r).status == 503) ≡ false
command_fine court h manner (Ok c) = outcome_fine manner c (outcome court h c)
command_fine court h in_json (Err fault) = refl
command_fine court h (in_pages fresh pairs) (Err fault) = refl

previewed_fine : (court : CourtSettings) (h : History) (fresh : ℕ) (pairs : List (List ℕ × List ℕ)) (c : Command) (a : Answer)
    → ((outcome_previewed court h fresh pairs c a).status == 503) ≡ false
previewed_fine court h fresh pairs c (accepted reply) = refl
previewed_fine court h fresh pairs c (repeated reply) = refl
previewed_fine court h fresh pairs c (refused r) = refl

preview_fine : (court : CourtSettings) (h : History) (fresh : ℕ) (pairs : List (List ℕ × List ℕ)) (r : Result Command WireFault) → ((reading_previewed court h fresh pairs r).status == 503) ≡ false
preview_fine court h fresh pairs (Ok c) = previewed_fine court h fresh pairs c (outcome court h c)
preview_fine court h fresh pairs (Err fault) = refl

found_fine : (form : Form) (found_text : Option (List ℕ)) → ((found form found_text).status == 503) ≡ false
found_fine Json None = refl
found_fine Text None = refl
found_fine OpenText None = refl
found_fine Html None = refl
found_fine (Export form) None = refl
found_fine File None = refl
found_fine (Seen place) None = refl
found_fine form (Some body) = refl

response_fine : (court : CourtSettings) (h : History) (wish : Wish) (body : List ℕ) → ((response_to court h wish body).status == 503) ≡ false
response_fine court h (Reject r) body = rejected_fine r
response_fine court h (Refuse r) body = rejected_fine r
response_fine court h (CommandWish len) body = command_fine court h in_json (command_in body)
response_fine court h (FormWish len fresh) body = command_fine court h (in_pages fresh (pairs_in body)) (command_in_form body)
response_fine court h (Preview len fresh) body = preview_fine court h fresh (pairs_in body) (command_in_form body)
response_fine court h (Case number) body = found_fine Text (text_of_case court h number)
response_fine court h (Deadlines number) body = found_fine Text (text_of_deadlines court h number)
response_fine court h (Calendar from to) body = refl
response_fine court h (Holidays year) body = refl
response_fine court h (PageWish page fresh) body = found_fine Html (text_of_page court h fresh page)
response_fine court h (ExportWish form days fresh) body = refl
response_fine court h Copy body = refl

-- what is sent in the place of an answer has it if the database failed alone
short_fine : (browser : Bool) → ((problem_said browser NoMemory).status == 503) ≡ false
short_fine true = refl
short_fine false = refl

store_told : (browser : Bool) → ((problem_said browser Store).status == 503) ≡ true
store_told true = refl
store_told false = refl

module _ {S : Type 0} (g : Ghosts S) (d : Docket S) (h : History) (wish : Wish) (body : List ℕ) (response : Response) where
  says : {b : _} (other : Response) → response ≡ other → (other.status == 503) ≡ b → (response.status == 503) ≡ b
  says other is fine = ap (λ (r : Response). r.status == 503) is ∙ fine

  -- the docket is that of the history or of the next one; or it failed and is closed, and the status is 503
  abbrev pub Left : Type 0
  Left =
      ((Stands g d h ⊎ Stands g d (history_after d.court h wish body)) × ((response.status == 503) ≡ false))
      ⊎ (LastsAsEither g d.conn (docket_rows d.court h) (docket_rows d.court (history_after d.court h wish body)) × ((response.status == 503) ≡ true) × (d.closed ≡ true))

  left_by : (problem : Option Problem) → response ≡ told wish problem (response_to d.court h wish body) → LeftBy g problem d h wish body → Left
  left_by None is left = inl (inr left, says _ is (response_fine d.court h wish body))
  left_by (Some NoMemory) is left = inl (left.1, says _ is (short_fine (is_of_pages wish)))
  left_by (Some Store) is left = inr (left.1, says _ is (store_told (is_of_pages wish)), left.2)
  left_by (Some (Rejected r)) is left = absurd left
  left_by (Some NoSuchCase) is left = absurd left
  left_by (Some NoCopy) is left = absurd left
  left_by (Some Closed) is left = absurd left
  left_by (Some Damaged) is left = absurd left

  pub left : IsAnswered g d h wish body response → Left
  left answered = left_by answered.problem answered.is answered.left
