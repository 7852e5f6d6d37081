-- The bytes of an answer: a status line and two to five fields, each ended by CR LF, an empty line, and the body.
use Rattle.std.specs.Prelude.{ℕ, Bool, true, false, List, [], ◌∷◌, ◌++◌, length, Option, Some, None, codes, decimal}
use Rattle.http.specs.StatusCode.{status_text}
use Rattle.http_request.specs.declared.export.Export.{Export as Exported}
use Rattle.http_request.specs.declared.export.Export.TheVariants as export
use Rattle.http_request.specs.declared.fields.Rejection.{Rejection}
use Rattle.http_request.specs.declared.fields.Rejection.TheVariants.{HeadTooLong, BadHead, NotFound, Method, BadPathValue, LengthRequired, TooLong, Foreign, MediaType}
use Rattle.html_sheets.specs.Sites.{text_page}
use Rattle.docket_http.specs.Places.{path_of}
use Rattle.docket_http.specs.declared.head.Form.{Form}
use Rattle.docket_http.specs.declared.head.Form.TheVariants.{Json, Text, OpenText, Html, Export, File, Seen}
use Rattle.docket_http.specs.declared.place.Place.{Place}
use Rattle.docket_http.specs.declared.problem.Problem.{Problem}
use Rattle.docket_http.specs.declared.problem.Problem.TheVariants.{Rejected, NoSuchCase, NoCopy, NoMemory, Store, Closed, Damaged}

-- the line of what an export is (RFC 5545, section 8.1; RFC 4180, section 3)
abbrev pub export_line : Exported → List ℕ
export_line export.Calendar = codes "content-type: text/calendar; charset=utf-8\r\n"
export_line export.Csv = codes "content-type: text/csv; charset=utf-8\r\n"
export_line export.Json = codes "content-type: application/json\r\n"

-- the line of what the body is; an answer with another place to look at has the line of that place (RFC 9110, section 10.2.2)
abbrev pub type_line : Form → List ℕ
type_line Json = codes "content-type: application/json\r\n"
type_line Text = codes "content-type: text/plain; charset=utf-8\r\n"
type_line OpenText = codes "content-type: text/plain; charset=utf-8\r\n"
type_line Html = codes "content-type: text/html; charset=utf-8\r\n"
type_line (Export form) = export_line form
type_line File = codes "content-type: application/vnd.sqlite3\r\n"
type_line (Seen place) = codes "location: " ++ (path_of place ++ codes "\r\n")

-- the line of the length; an answer that ends with the connection has none
abbrev pub length_line : Form → ℕ → List ℕ
length_line Json len = codes "content-length: " ++ (decimal len ++ codes "\r\n")
length_line Text len = codes "content-length: " ++ (decimal len ++ codes "\r\n")
length_line Html len = codes "content-length: " ++ (decimal len ++ codes "\r\n")
length_line (Export form) len = codes "content-length: " ++ (decimal len ++ codes "\r\n")
length_line File len = codes "content-length: " ++ (decimal len ++ codes "\r\n")
length_line (Seen place) len = codes "content-length: " ++ (decimal len ++ codes "\r\n")
length_line OpenText len = []

-- what a page may do in a browser (Content Security Policy): it is styled by what stands in it, and its forms ask this server. It runs no
-- script, takes nothing from elsewhere and is shown in no other page. And no browser keeps it (RFC 9111, 5.2.2.5), nor an export: what is due
-- changes. A file is saved and not shown (RFC 6266)
abbrev pub policy_line : Form → List ℕ
policy_line Html =
    codes "content-security-policy: default-src 'none'; style-src 'unsafe-inline'; form-action 'self'; base-uri 'none'; frame-ancestors 'none'\r\n"
    ++ codes "cache-control: no-store\r\n"
policy_line File = codes "content-disposition: attachment; filename=\"docket.db\"\r\n" ++ codes "cache-control: no-store\r\n"
policy_line (Export form) = codes "cache-control: no-store\r\n"
policy_line (Seen place) = codes "cache-control: no-store\r\n"
policy_line Json = []
policy_line Text = []
policy_line OpenText = []

abbrev pub head_bytes : ℕ → Form → ℕ → List ℕ
head_bytes status form len =
    codes "HTTP/1.1 " ++ (status_text status
    ++ (codes "\r\n" ++ (type_line form ++ (policy_line form ++ (length_line form len
    ++ codes "connection: close\r\n\r\n")))))

-- an answer
pub record Response : Type 0 where
  pub status : ℕ
  pub form : Form
  pub body : List ℕ

abbrev pub response_bytes : Response → List ℕ
response_bytes r = head_bytes r.status r.form (length r.body) ++ r.body

-- JSON ends with a line feed
abbrev pub json : ℕ → List ℕ → Response
json status text = record { status = status; form = Json; body = text ++ 10 ∷ [] }

-- a page
abbrev pub page : ℕ → List ℕ → Response
page status body = record { status = status; form = Html; body = body }

-- the browser is to get this place next
abbrev pub seen : Place → Response
seen place = record { status = 303; form = Seen place; body = [] }

-- what was asked for, in that form
abbrev pub fine : Form → List ℕ → Response
fine form body = record { status = 200; form = form; body = body }

abbrev pub rejection_status : Rejection → ℕ
rejection_status HeadTooLong = 431
rejection_status BadHead = 400
rejection_status NotFound = 404
rejection_status Method = 405
rejection_status BadPathValue = 400
rejection_status LengthRequired = 411
rejection_status TooLong = 413
rejection_status Foreign = 403
rejection_status MediaType = 415

abbrev pub rejection_word : Rejection → List ℕ
rejection_word HeadTooLong = codes "head-too-long"
rejection_word BadHead = codes "bad-head"
rejection_word NotFound = codes "not-found"
rejection_word Method = codes "method"
rejection_word BadPathValue = codes "bad-path-value"
rejection_word LengthRequired = codes "length-required"
rejection_word TooLong = codes "too-long"
rejection_word Foreign = codes "foreign"
rejection_word MediaType = codes "media-type"

abbrev pub problem_status : Problem → ℕ
problem_status (Rejected rejection) = rejection_status rejection
problem_status NoSuchCase = 404
problem_status NoCopy = 500
problem_status NoMemory = 500
problem_status Store = 503
problem_status Closed = 503
problem_status Damaged = 503

abbrev pub problem_word : Problem → List ℕ
problem_word (Rejected rejection) = rejection_word rejection
problem_word NoSuchCase = codes "no-such-case"
problem_word NoCopy = codes "no-copy"
problem_word NoMemory = codes "no-memory"
problem_word Store = codes "store"
problem_word Closed = codes "closed"
problem_word Damaged = codes "damaged"

-- {"error":"not-found"}
abbrev pub problem_response : Problem → Response
problem_response p = json (problem_status p) (codes "{\"error\":\"" ++ problem_word p ++ codes "\"}")

-- what a browser is told of a request that is refused: what to do
abbrev pub rejection_sentence : Rejection → List ℕ
rejection_sentence HeadTooLong = codes "The address is too long. Begin at Cases."
rejection_sentence BadHead = codes "The request could not be read. Begin at Cases."
rejection_sentence NotFound = codes "There is no such page. Begin at Cases."
rejection_sentence Method = codes "This address is not opened in this way. Begin at Cases."
rejection_sentence BadPathValue = codes "A value in the address is not right: a number is 1 or more, a day is YYYY-MM-DD, and a search has 1 to 100 bytes. Correct it, or begin at Cases."
rejection_sentence LengthRequired = codes "The form came without its length. Open it again in a browser."
rejection_sentence TooLong = codes "The form is too long. Shorten it, and enter it again."
rejection_sentence Foreign = codes "The request came from another site. Begin at Cases."
rejection_sentence MediaType = codes "The form was not sent as a form. Open it again in a browser."

-- the page of a request that is refused
abbrev pub refusal_page : Rejection → Response
refusal_page rejection = page (rejection_status rejection) (text_page (codes "Request refused") (rejection_sentence rejection))

-- what a question asks about does not exist: a browser gets a page that says so
abbrev pub missing : Form → Response
missing Html = page 404 (text_page (codes "Not found") (codes "There is no such case, or the case has no such deadline."))
missing _ = problem_response NoSuchCase

-- a page of a sentence that says what to do where the server fails: small and without a style, so that writing it takes no memory
abbrev pub failure_page : ℕ → List ℕ → Response
failure_page status sentence =
    page status (
    codes "<!DOCTYPE html>\n<html lang=\"en\">\n<head>\n<meta charset=\"utf-8\">\n<title>Not answered</title>\n</head>\n<body>\n<h1>Not answered</h1>\n<p>"
    ++ (sentence
    ++ codes "</p>\n<p><a href=\"/pages/cases\">Cases</a></p>\n</body>\n</html>\n"))

-- the page of a problem
abbrev pub problem_page : Problem → Response
problem_page (Rejected rejection) = refusal_page rejection
problem_page NoSuchCase = missing Html
problem_page NoCopy = failure_page 500 (codes "No copy was made. Ask for it again.")
problem_page NoMemory = failure_page 500 (codes "The server has too little memory for this. Try again: a form that is sent again is entered once.")
problem_page Store = failure_page 503 (codes "The disk or the database failed, and the server has stopped. Tell who runs it. Then send a form again: it is entered once.")
problem_page Closed = failure_page 503 (codes "The database failed before, and the server has stopped. Tell who runs it. Then send a form again: it is entered once.")
problem_page Damaged = failure_page 503 (codes "The docket is damaged, and the server has stopped. Tell who runs it: docketctl check says more.")

-- a problem as it is told: to a browser by its page, else as JSON
abbrev pub problem_said : Bool → Problem → Response
problem_said true p = problem_page p
problem_said false p = problem_response p

-- the text of a question in that form, if what it asks about exists
abbrev pub found : Form → Option (List ℕ) → Response
found form None = missing form
found form (Some body) = fine form body
