-- The pages, and what asks for them: what stands behind "/pages" in a path, and the query.
use Rattle.std.specs.Prelude.{ℕ, List, [], Option, Some, None, Bool, ◌||◌, bytes_eq, if◌then◌else◌, codes, option_map, option_and_then}
use Rattle.html_sheets.specs.declared.due.Due.TheVariants.{Today, Week, Overdue}
use Rattle.http_request.specs.declared.route.Route.{Route}
use Rattle.http_request.specs.declared.route.Route.TheVariants.{Commands, Case as CaseRoute, Deadlines, Calendar, Holidays}
use Rattle.http_request.specs.declared.page.Routes.{Routes}
use Rattle.http_request.specs.declared.page.Routes.TheVariants.{Docket, Guarded, WithPages}
use Rattle.http_request.specs.declared.page.Page.{Page}
use Rattle.http_request.specs.declared.page.Page.TheVariants.{Cases, Case, Days, Due, Search, Kinds, CourtDays, Rules}
use Rattle.http_request.specs.Path.{place_of, behind}
use Rattle.http_request.specs.Number.{number_of}
use Rattle.http_request.specs.Days.{days_of, week_of}
use Rattle.http_request.specs.Entries.{entry_page}
use Rattle.http_request.specs.Deadlines.{deadline_page}
use Rattle.http_request.specs.Search.{words_of}

-- what a path has behind "/pages", where pages are served
abbrev pub pages_rest : Routes → List ℕ → Option (List ℕ)
pages_rest Docket path = None
pages_rest (Guarded origins) path = None
pages_rest (WithPages origins) path = behind (codes "/pages") path

-- the list of cases: without a query the last that there are, and else those before the one that the query names
abbrev pub list_page : Option (List ℕ) → Option Page
list_page None = Some (Cases None)
list_page (Some query) = option_map (λ n. Cases (Some n)) (option_and_then number_of (behind (codes "before=") query))

-- the cases that the words of the query are found in
abbrev pub search_page : Option (List ℕ) → Option Page
search_page query = option_map Search (option_and_then words_of query)

abbrev pub days_page : Option (ℕ × ℕ) → Option Page
days_page days = option_map (λ d. Days d.0 d.1) days

-- the week from the day that the query names
abbrev pub week_page : Option (List ℕ) → Option Page
week_page query = days_page (option_and_then week_of (option_and_then (behind (codes "from=")) query))

-- the page beside a route, where it has one, with these values. A value may be bad.
abbrev pub page_at : Route → List ℕ → List ℕ → Option (Option Page)
page_at CaseRoute first second = Some (option_map Case (number_of first))
page_at Calendar first second = Some (days_page (days_of first second))
page_at Commands first second = None
page_at Deadlines first second = None
page_at Holidays first second = None

abbrev pub is_list : List ℕ → Bool
is_list rest = bytes_eq rest [] || bytes_eq rest (codes "/") || bytes_eq rest (codes "/cases")

-- the page of a deadline, where the path goes on to one, and else that beside the path's route
abbrev pub numbered_page : Option (Option Page) → List ℕ → Option (Option Page)
numbered_page (Some page) rest = Some page
numbered_page None rest = option_and_then (λ place. page_at place.route place.first place.second) (place_of rest)

-- the form that a word behind "/enter/" names, where the path has one, and else a page with a number or a day in its path
abbrev pub named_page : Option (List ℕ) → List ℕ → Option (List ℕ) → Option (Option Page)
named_page (Some word) rest query = entry_page word query
named_page None rest query = numbered_page (deadline_page rest) rest

-- the page that the rest of a path asks for, with the query. A value in them may be bad.
abbrev pub page_of : List ℕ → Option (List ℕ) → Option (Option Page)
page_of rest query =
    if is_list rest then Some (list_page query)
    else if bytes_eq rest (codes "/today") then Some (Some (Due Today))
    else if bytes_eq rest (codes "/week") then Some (Some (Due Week))
    else if bytes_eq rest (codes "/overdue") then Some (Some (Due Overdue))
    else if bytes_eq rest (codes "/search") then Some (search_page query)
    else if bytes_eq rest (codes "/calendar") then Some (week_page query)
    else if bytes_eq rest (codes "/court-days") then Some (Some CourtDays)
    else if bytes_eq rest (codes "/rules") then Some (Some Rules)
    else if bytes_eq rest (codes "/enter") then Some (Some Kinds)
    else named_page (behind (codes "/enter/") rest) rest query
