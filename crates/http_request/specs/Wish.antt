-- What a request asks for, by its method, its target and its fields.
use Rattle.std.specs.Prelude.{◌≡◌, ℕ, ◌≤◌, ◌⊎◌, List, [], length, map, Option, Some, None, Result, Ok, Err, Bool, nat_eq, bytes_eq, if◌then◌else◌, codes}
use Rattle.std.specs.Cmp.Lexicographic.{pointwise}
use Rattle.httparse.specs.Grammar.{RequestHead, ReadsRequest}
use Rattle.httparse.specs.Spans.{name_and_value}
use Rattle.http_request.specs.declared.route.Route.{Route}
use Rattle.http_request.specs.declared.route.Route.TheVariants.{Commands, Case as CaseRoute, Deadlines as DeadlinesRoute, Calendar as CalendarRoute, Holidays as HolidaysRoute}
use Rattle.http_request.specs.Path.{Place, place_of}
use Rattle.http_request.specs.declared.export.Export.{Export}
use Rattle.http_request.specs.declared.export.Export.TheVariants as export
use Rattle.http_request.specs.declared.fields.Rejection.{Rejection}
use Rattle.http_request.specs.declared.fields.Rejection.TheVariants.{BadHead, NotFound, Method, BadPathValue, Foreign}
use Rattle.http_request.specs.declared.wish.Wish.{Wish}
use Rattle.http_request.specs.declared.wish.Wish.TheVariants.{Reject, Refuse, Command, Form, Preview, Case, Deadlines, Calendar, Holidays, Page as PageWish, Export as ExportWish, Copy}
use Rattle.http_request.specs.declared.page.Routes.{Routes}
use Rattle.http_request.specs.declared.page.Page.{Page}
use Rattle.http_request.specs.Number.{number_of, year_of}
use Rattle.http_request.specs.Days.{days_of}
use Rattle.http_request.specs.Exports.{days_asked}
use Rattle.http_request.specs.Fields.{body_length}
use Rattle.http_request.specs.Forms.{form_length}
use Rattle.http_request.specs.Guard.{is_foreign}
use Rattle.http_request.specs.Target.{path_of, query_of}
use Rattle.http_request.specs.Pages.{pages_rest, page_of}

-- a command is posted, a text is got
abbrev pub route_method : Route → List ℕ
route_method Commands = codes "POST"
route_method CaseRoute = codes "GET"
route_method DeadlinesRoute = codes "GET"
route_method CalendarRoute = codes "GET"
route_method HolidaysRoute = codes "GET"

abbrev pub is_method : Route → List ℕ → Bool
is_method route method = pointwise nat_eq method (route_method route)

abbrev pub body_wish : Result ℕ Rejection → Wish
body_wish (Ok n) = Command n
body_wish (Err rejection) = Reject rejection

abbrev pub number_wish : (ℕ → Wish) → Option ℕ → Wish
number_wish wish None = Reject BadPathValue
number_wish wish (Some n) = wish n

abbrev pub holidays_wish : Option ℕ → Wish
holidays_wish year = number_wish Holidays year

abbrev pub calendar_wish : Option (ℕ × ℕ) → Wish
calendar_wish None = Reject BadPathValue
calendar_wish (Some days) = Calendar days.0 days.1

-- what a route asks for with these values
abbrev pub route_wish : Route → List ℕ → List ℕ → List (List ℕ × List ℕ) → Wish
route_wish Commands first second fields = body_wish (body_length fields)
route_wish CaseRoute first second fields = number_wish Case (number_of first)
route_wish DeadlinesRoute first second fields = number_wish Deadlines (number_of first)
route_wish CalendarRoute first second fields = calendar_wish (days_of first second)
route_wish HolidaysRoute first second fields = holidays_wish (year_of first)

abbrev pub place_wish : List ℕ → List (List ℕ × List ℕ) → Option Place → Wish
place_wish method fields None = Reject NotFound
place_wish method fields (Some place) = if is_method place.route method then route_wish place.route place.first place.second fields else Reject Method

abbrev pub got_wish : ℕ → Option Page → Wish
got_wish fresh None = Refuse BadPathValue
got_wish fresh (Some page) = PageWish page fresh

-- a page is got
abbrev pub page_wish : ℕ → List ℕ → Option (Option Page) → Wish
page_wish fresh method None = Refuse NotFound
page_wish fresh method (Some page) = if bytes_eq method (codes "GET") then got_wish fresh page else Refuse Method

abbrev pub days_wish : Export → ℕ → Option (Option (ℕ × ℕ)) → Wish
days_wish form fresh None = Reject BadPathValue
days_wish form fresh (Some days) = ExportWish form days fresh

-- an export is got
abbrev pub export_wish : Export → ℕ → List ℕ → Option (Option (ℕ × ℕ)) → Wish
export_wish form fresh method days = if bytes_eq method (codes "GET") then days_wish form fresh days else Reject Method

-- a copy is got
abbrev pub copy_wish : List ℕ → Wish
copy_wish method = if bytes_eq method (codes "GET") then Copy else Refuse Method

-- a form of a length, with a fresh number
abbrev pub form_wish : (ℕ → ℕ → Wish) → ℕ → Result ℕ Rejection → Wish
form_wish wish fresh (Ok n) = wish n fresh
form_wish wish fresh (Err rejection) = Refuse rejection

-- what the rest of a path behind "/pages" asks for, with the query and a fresh number: a copy of the docket's file, a form that is
-- entered, what a form would do, an export, or a page. What is refused here is refused with a page, but for an export.
abbrev pub rest_wish : ℕ → List ℕ → List (List ℕ × List ℕ) → List ℕ → Option (List ℕ) → Wish
rest_wish fresh method fields rest query =
    if bytes_eq rest (codes "/backup") then copy_wish method
    else if bytes_eq rest (codes "/commands") then form_wish Form fresh (form_length method fields)
    else if bytes_eq rest (codes "/previews") then form_wish Preview fresh (form_length method fields)
    else if bytes_eq rest (codes "/due.ics") then export_wish export.Calendar fresh method (days_asked query)
    else if bytes_eq rest (codes "/due.csv") then export_wish export.Csv fresh method (days_asked query)
    else if bytes_eq rest (codes "/due.json") then export_wish export.Json fresh method (days_asked query)
    else page_wish fresh method (page_of rest query)

-- what a path asks for: one of the docket, or what its rest behind "/pages" asks for
abbrev pub path_wish : ℕ → List ℕ → List ℕ → List (List ℕ × List ℕ) → Option (List ℕ) → Wish
path_wish fresh method target fields None = place_wish method fields (place_of (path_of target))
path_wish fresh method target fields (Some rest) = rest_wish fresh method fields rest (query_of target)

-- what a head of this method, target and fields asks for, where these routes are served, with a fresh number; a foreign request asks
-- for nothing, whatever its target
abbrev pub wish_of : Routes → ℕ → List ℕ → List ℕ → List (List ℕ × List ℕ) → Wish
wish_of routes fresh method target fields =
    if is_foreign routes method fields then Reject Foreign else path_wish fresh method target fields (pages_rest routes (path_of target))

-- the bytes are no head of the grammar with at most 64 fields
abbrev pub HasNoHead : List ℕ → Type 0
HasNoHead bytes = (h : RequestHead) → ReadsRequest bytes h [] → length h.fields ≤ 64 → ⊥

-- what the bytes of a head ask for, with a fresh number
abbrev pub IsHeadWish : Routes → ℕ → List ℕ → Wish → Type 0
IsHeadWish routes fresh bytes wish =
    ((h : RequestHead) × ReadsRequest bytes h [] × (length h.fields ≤ 64) × (wish ≡ wish_of routes fresh h.method h.target (map name_and_value h.fields)))
    ⊎ (HasNoHead bytes × (wish ≡ Reject BadHead))

-- a year is one from 2000 to 2099
abbrev pub IsWithinLimits : Wish → Type 0
IsWithinLimits (Holidays year) = 2000 ≤ year × year ≤ 2099
IsWithinLimits (Reject rejection) = Unit {0}
IsWithinLimits (Refuse rejection) = Unit {0}
IsWithinLimits (Command len) = Unit {0}
IsWithinLimits (Form len fresh) = Unit {0}
IsWithinLimits (Preview len fresh) = Unit {0}
IsWithinLimits (Case number) = Unit {0}
IsWithinLimits (Deadlines number) = Unit {0}
IsWithinLimits (Calendar from to) = Unit {0}
IsWithinLimits (PageWish page fresh) = Unit {0}
IsWithinLimits (ExportWish form days fresh) = Unit {0}
IsWithinLimits Copy = Unit {0}
