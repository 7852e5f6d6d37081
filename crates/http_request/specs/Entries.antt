-- Links to the forms: which kind of command a form enters, and what the query says that it is about.
use Rattle.std.specs.Prelude.{ℕ, List, Option, Some, None, bytes_eq, if◌then◌else◌, codes, option_map, option_and_then}
use Rattle.std.specs.List.{before_first}
use Rattle.docket_command.specs.declared.command_name.CommandName.{CommandName}
use Rattle.docket_command.specs.Names.{command_named}
use Rattle.html_sheets.specs.declared.about.About.{About}
use Rattle.html_sheets.specs.declared.about.About.TheVariants.{Nothing, Case, Party, Deadline}
use Rattle.http_request.specs.declared.page.Page.{Page}
use Rattle.http_request.specs.declared.page.Page.TheVariants.{Enter}
use Rattle.http_request.specs.Number.{number_of}
use Rattle.http_request.specs.Path.{behind}
use Rattle.http_request.specs.Target.{is_ampersand, behind_first}

-- a case with what stands behind "party=" or "deadline="
abbrev pub about_with : ℕ → Option (List ℕ) → Option (List ℕ) → Option About
about_with number (Some party) deadline = option_map (λ p. Party number p) (number_of party)
about_with number None (Some deadline) = option_map (λ d. Deadline number d) (number_of deadline)
about_with number None None = None

-- a case with one of its parties or of its deadlines
abbrev pub more_about : ℕ → List ℕ → Option About
more_about number more = about_with number (behind (codes "party=") more) (behind (codes "deadline=") more)

-- a case alone, or with what stands behind an ampersand
abbrev pub about_by : Option ℕ → Option (List ℕ) → Option About
about_by number None = option_map Case number
about_by number (Some more) = option_and_then (λ n. more_about n more) number

abbrev pub case_about : List ℕ → Option About
case_about text = about_by (number_of (before_first is_ampersand text)) (behind_first is_ampersand text)

-- what a query is about: `case=N`, `case=N&party=P` or `case=N&deadline=D`; without a query it is nothing
abbrev pub about_of : Option (List ℕ) → Option About
about_of None = Some Nothing
about_of (Some query) = option_and_then case_about (behind (codes "case=") query)

-- the kind of command that a form enters; no form enters the table of a calendar
abbrev pub entered_kind : List ℕ → Option CommandName
entered_kind word = if bytes_eq word (codes "import_calendar") then None else command_named word

abbrev pub kind_page : CommandName → Option About → Option Page
kind_page kind about = option_map (λ a. Enter kind a) about

-- the form of the kind that a word names, where there is one, about what the query says. The query may be bad.
abbrev pub entry_page : List ℕ → Option (List ℕ) → Option (Option Page)
entry_page word query = option_map (λ kind. kind_page kind (about_of query)) (entered_kind word)
