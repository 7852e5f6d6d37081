-- The answer to a request, and what the request leaves of the docket.
use Rattle.std.specs.Prelude.{◌≡◌, ◌⊎◌, ℕ, Bool, true, false, IsTrue, List, Option, Some, None, Result, Ok, Err}
use Rattle.std.specs.Option.{option_map_or}
use Rattle.sqlite.specs.Store.{Ghosts}
use Rattle.sqlite.specs.State.{HasCleanDisk}
use Rattle.sqlite.specs.Held.{state}
use Rattle.court_days.specs.Court.{CourtSettings}
use Rattle.docket_command.specs.declared.command_name.CommandName.{CommandName}
use Rattle.docket_history.specs.Histories.{History, standing_rows}
use Rattle.docket_tables.specs.Stands.{LastsAsEither}
use Rattle.docket_applying.specs.Applying.{Stands, docket_rows}
use Rattle.docket_applying.specs.Dockets.{Docket}
use Rattle.docket_applying.specs.declared.fault.Fault.{Fault}
use Rattle.docket_applying.specs.declared.fault.Fault.TheVariants as fault
use Rattle.docket_calendar.specs.Calendar.{text_of_calendar}
use Rattle.docket_questions.specs.Searches.{page_of_search}
use Rattle.docket_questions.specs.Texts.{page_of_case, page_of_cases, page_of_reasons, page_of_rules, text_of_case, text_of_deadlines}
use Rattle.docket_text.specs.HolidayTexts.{holiday_text}
use Rattle.entry_pages.specs.Forms.{about_pairs}
use Rattle.entry_pages.specs.Pages.{entry_page, kinds_page}
use Rattle.entry_pages.specs.Saying as saying
use Rattle.html_sheets.specs.Sites.{court_days_page}
use Rattle.html_sheets.specs.declared.about.About.{About}
use Rattle.http_request.specs.declared.page.Page.{Page}
use Rattle.http_request.specs.declared.page.Page.TheVariants as page
use Rattle.http_request.specs.declared.wish.Wish.{Wish}
use Rattle.http_request.specs.declared.wish.Wish.TheVariants.{Reject, Refuse, Command as CommandWish, Form as FormWish, Preview, Case, Deadlines, Calendar, Holidays, Page as PageWish, Export as ExportWish, Copy}
use Rattle.docket_http.specs.Asked.{exported, listed, listed_by, text_asked}
use Rattle.docket_http.specs.Answer.{Response, fine, found, problem_page, problem_response, problem_said, refusal_page}
use Rattle.docket_http.specs.Entering.{after_reading, closed_entry, entry_of, entry_response, form_entry, line_entry}
use Rattle.docket_http.specs.Moments.{day_of_request}
use Rattle.docket_http.specs.Previews.{preview_response}
use Rattle.docket_http.specs.Reply.{IsReply}
use Rattle.docket_http.specs.declared.head.Form.TheVariants.{Text, OpenText, Html, Export}
use Rattle.docket_http.specs.declared.problem.Problem.{Problem}
use Rattle.docket_http.specs.declared.problem.Problem.TheVariants.{Rejected, NoCopy, NoMemory, Store, Closed, Damaged}
use Rattle.docket_http.specs.declared.reply.Reply.{Reply}

-- the form of that kind, filled in with the numbers of what it is about
abbrev pub form_about : CommandName → ℕ → About → List ℕ
form_about kind fresh about = entry_page kind fresh (about_pairs about) saying.nothing

-- the text of a page on a day, if what it shows exists; the request has that number
abbrev pub text_on : CourtSettings → History → ℕ → ℕ → Page → Option (List ℕ)
text_on court h day fresh (page.Cases before) = Some (page_of_cases h before day)
text_on court h day fresh (page.Case number) = page_of_case court h number day
text_on court h day fresh (page.Days from to) = Some (text_asked court h (listed from to day))
text_on court h day fresh (page.Due due) = Some (text_asked court h (listed_by due day fresh))
text_on court h day fresh (page.Search words) = Some (page_of_search h words day)
text_on court h day fresh page.CourtDays = Some (court_days_page court (standing_rows h) day)
text_on court h day fresh page.Rules = Some (page_of_rules h day)
text_on court h day fresh (page.Reasons case deadline) = page_of_reasons court h case deadline day
text_on court h day fresh page.Kinds = Some (kinds_page saying.nothing)
text_on court h day fresh (page.Enter kind about) = Some (form_about kind fresh about)

-- the same on the day of the request
abbrev pub text_of_page : CourtSettings → History → ℕ → Page → Option (List ℕ)
text_of_page court h fresh page = text_on court h (day_of_request court fresh) fresh page

-- the answer to a request with this body; a docket has no copy of its own file to send
abbrev pub response_to : CourtSettings → History → Wish → List ℕ → Response
response_to court h (Reject rejection) body = problem_response (Rejected rejection)
response_to court h (Refuse rejection) body = refusal_page rejection
response_to court h (CommandWish len) body = entry_response court h (line_entry body)
response_to court h (FormWish len fresh) body = entry_response court h (form_entry fresh body)
response_to court h (Preview len fresh) body = preview_response court h fresh body
response_to court h (Case number) body = found Text (text_of_case court h number)
response_to court h (Deadlines number) body = found Text (text_of_deadlines court h number)
response_to court h (Calendar from to) body = fine OpenText (text_of_calendar court h from to)
response_to court h (Holidays year) body = fine Text (holiday_text year)
response_to court h (PageWish page fresh) body = found Html (text_of_page court h fresh page)
response_to court h (ExportWish form days fresh) body = fine (Export form) (text_asked court h (exported form days fresh))
response_to court h Copy body = problem_page NoCopy

-- the history after the request: only a command that it enters adds to it
abbrev pub history_after : CourtSettings → History → Wish → List ℕ → History
history_after court h wish body = option_map_or (λ e. after_reading court h e.read) (entry_of wish body) h

-- whether the page needs the docket
abbrev pub asks_for_page : Page → Bool
asks_for_page page.Kinds = false
asks_for_page (page.Enter kind about) = false
asks_for_page _ = true

-- whether the answer needs the docket
abbrev pub asks_docket : Wish → Bool
asks_docket (Reject rejection) = false
asks_docket (Refuse rejection) = false
asks_docket (Holidays year) = false
asks_docket Copy = false
asks_docket (PageWish page fresh) = asks_for_page page
asks_docket _ = true

-- whether the answer needs memory: that in JSON to a request that is refused by its head is a constant
abbrev pub takes_memory : Wish → Bool
takes_memory (Reject rejection) = false
takes_memory _ = true

-- the problem that is sent if the docket gave no reply
abbrev pub problem_of_fault : Fault → Problem
problem_of_fault fault.NoMemory = NoMemory
problem_of_fault fault.StoreFailed = Store
problem_of_fault fault.Closed = Closed
problem_of_fault fault.Damaged = Damaged
problem_of_fault (fault.Refused r) = Damaged

-- whether its answer is built before it is written
abbrev pub IsBuilt : Wish → Type 0
IsBuilt (Calendar from to) = ⊥
IsBuilt (Reject rejection) = Unit {0}
IsBuilt (Refuse rejection) = Unit {0}
IsBuilt (CommandWish len) = Unit {0}
IsBuilt (FormWish len fresh) = Unit {0}
IsBuilt (Preview len fresh) = Unit {0}
IsBuilt (Case number) = Unit {0}
IsBuilt (Deadlines number) = Unit {0}
IsBuilt (Holidays year) = Unit {0}
IsBuilt (PageWish page fresh) = Unit {0}
IsBuilt (ExportWish form days fresh) = Unit {0}
IsBuilt Copy = Unit {0}

-- whether the request is for what stands behind "/pages" and no export, so that its answer is for a browser
abbrev pub is_of_pages : Wish → Bool
is_of_pages (Reject rejection) = false
is_of_pages (Refuse rejection) = true
is_of_pages (CommandWish len) = false
is_of_pages (FormWish len fresh) = true
is_of_pages (Preview len fresh) = true
is_of_pages (Case number) = false
is_of_pages (Deadlines number) = false
is_of_pages (Calendar from to) = false
is_of_pages (Holidays year) = false
is_of_pages (PageWish page fresh) = true
is_of_pages (ExportWish form days fresh) = false
is_of_pages Copy = true

-- the problem that is sent in the place of an answer: a page to a browser, else JSON
abbrev pub problem_to : Wish → Problem → Response
problem_to wish p = problem_said (is_of_pages wish) p

-- the answer, or that problem
abbrev pub told : Wish → Option Problem → Response → Response
told wish None response = response
told wish (Some problem) response = problem_to wish problem

module _ {S : Type 0} (g : Ghosts S) where
  -- what remains of the docket after this was sent: with the answer, the docket that it reports; if memory ran out, that or the docket
  -- before. If the database failed, a power failure leaves the one or the other, and the docket is closed. No other problem is sent in an
  -- answer's place
  abbrev pub LeftBy : Option Problem → Docket S → History → Wish → List ℕ → Type 0
  LeftBy None d h wish body = Stands g d (history_after d.court h wish body)
  LeftBy (Some NoMemory) d h wish body = IsTrue (takes_memory wish) × (Stands g d h ⊎ Stands g d (history_after d.court h wish body))
  LeftBy (Some Store) d h wish body =
      IsTrue (asks_docket wish) × LastsAsEither g d.conn (docket_rows d.court h) (docket_rows d.court (history_after d.court h wish body)) × (d.closed ≡ true)
  LeftBy (Some _) d h wish body = ⊥

  -- the docket's reply to a request, and what it leaves
  abbrev pub Replies : Docket S → History → Wish → List ℕ → Result Reply Fault → Type 0
  Replies d h wish body (Ok reply) =
      HasCleanDisk (state g d.conn) → IsReply reply (response_to d.court h wish body) × LeftBy None d h wish body
  Replies d h wish body (Err fault.NoMemory) = HasCleanDisk (state g d.conn) → LeftBy (Some NoMemory) d h wish body
  Replies d h wish body (Err fault.StoreFailed) = LeftBy (Some Store) d h wish body
  Replies d h wish body (Err fault.Damaged) = HasCleanDisk (state g d.conn) → ⊥
  Replies d h wish body (Err _) = ⊥

  -- an answer to a request, and what it leaves
  pub record IsAnswered (d : Docket S) (h : History) (wish : Wish) (body : List ℕ) (response : Response) : Type 0 where
    pub problem : Option Problem
    pub is : response ≡ told wish problem (response_to d.court h wish body)
    pub left : LeftBy problem d h wish body

-- this answer, or that memory ran out, which a browser gets as a page
abbrev pub IsUnlessShort : Bool → Response → Response → Type 0
IsUnlessShort browser usual response = (response ≡ usual) ⊎ (response ≡ problem_said browser NoMemory)

abbrev pub IsClosedPage : Page → ℕ → Response → Type 0
IsClosedPage page.Kinds fresh response = IsUnlessShort true (fine Html (kinds_page saying.nothing)) response
IsClosedPage (page.Enter kind about) fresh response = IsUnlessShort true (fine Html (form_about kind fresh about)) response
IsClosedPage _ fresh response = response ≡ problem_page Closed

-- the answer on a closed docket: a request that needs the docket gets that it is closed, and any other its usual answer. Memory may run out
-- while a command is read, or a page or holidays are written
abbrev pub IsClosedAnswer : Wish → List ℕ → Response → Type 0
IsClosedAnswer (Reject rejection) body response = response ≡ problem_response (Rejected rejection)
IsClosedAnswer (Refuse rejection) body response = IsUnlessShort true (refusal_page rejection) response
IsClosedAnswer (CommandWish len) body response = IsUnlessShort false (closed_entry (line_entry body)) response
IsClosedAnswer (FormWish len fresh) body response = IsUnlessShort true (closed_entry (form_entry fresh body)) response
IsClosedAnswer (Preview len fresh) body response = IsUnlessShort true (closed_entry (form_entry fresh body)) response
IsClosedAnswer (Case number) body response = response ≡ problem_response Closed
IsClosedAnswer (Deadlines number) body response = response ≡ problem_response Closed
IsClosedAnswer (Calendar from to) body response = response ≡ problem_response Closed
IsClosedAnswer (PageWish page fresh) body response = IsClosedPage page fresh response
IsClosedAnswer (ExportWish form days fresh) body response = response ≡ problem_response Closed
IsClosedAnswer Copy body response = response ≡ problem_page NoCopy
IsClosedAnswer (Holidays year) body response = IsUnlessShort false (fine Text (holiday_text year)) response

-- the reply of a closed docket, and its result before a fault is sent as a problem
abbrev pub IsClosedReply : Wish → List ℕ → Reply → Type 0
IsClosedReply wish body reply = (response : Response) × IsReply reply response × IsClosedAnswer wish body response

abbrev pub RepliesClosed : Wish → List ℕ → Result Reply Fault → Type 0
RepliesClosed wish body (Ok reply) = IsClosedReply wish body reply
RepliesClosed wish body (Err fault) = IsClosedAnswer wish body (problem_to wish (problem_of_fault fault))
