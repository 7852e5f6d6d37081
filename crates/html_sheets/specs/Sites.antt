-- The pages of a docket that is served: each leads to the others.
use Rattle.std.specs.Prelude.{ℕ, Bool, true, false, List, [], ◌∷◌, ◌++◌, codes, decimal, Option, Some, None}
use Rattle.std.specs.List.{flat_map}
use Rattle.civil_time.specs.Civil.{weekday}
use Rattle.civil_time.specs.DayText.{day_text}
use Rattle.court_days.specs.Court.{CourtSettings}
use Rattle.docket_history.specs.declared.record.CaseRecord.{CaseRecord}
use Rattle.docket_history.specs.declared.record.DeadlineLine.{DeadlineLine}
use Rattle.docket_history.specs.declared.row.CaseRow.{CaseRow}
use Rattle.docket_history.specs.declared.row.CalendarRow.{CalendarRow}
use Rattle.docket_text.specs.CourtCalendar.{item_text}
use Rattle.docket_text.specs.HolidayNames.{weekday_word}
use Rattle.html_sheets.specs.Elements.{element, told, lines_told, link, nav, case_link, cell, number_cell, head_cell, row, table_head, table_foot}
use Rattle.html_sheets.specs.Entering.{enter_nav, deadline_kinds, calendar_kinds}
use Rattle.html_sheets.specs.Pages.{page_head, page_foot, cases_head, case_row, cases_foot}
use Rattle.html_sheets.specs.Sheets.{case_sheet}
use Rattle.html_sheets.specs.Weeks.{list_title, week_head, week_foot}
use Rattle.html_sheets.specs.declared.about.About.TheVariants.{Nothing, Deadline}
use Rattle.html_sheets.specs.declared.due_list.DueList.{DueList}
use Rattle.html_sheets.specs.declared.filed.Filed.{Filed}
use Rattle.html_sheets.specs.declared.filed.Filed.TheVariants.{Unfiled, InTime, Late, Untimed}
use Rattle.html_sheets.specs.declared.links.Links.TheVariants.{Pages}

-- a form that searches for cases by words, of at most a hundred characters: a browser asks for the path with `?find=` and the words
abbrev pub search_form : List ℕ
search_form =
    element (codes "form") (codes " action=\"/pages/search\" role=\"search\"") (
    element (codes "label") [] (
    codes "Docket number, caption or name "
    ++ codes "<input type=\"search\" name=\"find\" maxlength=\"100\" required>")
    ++ (codes " " ++ element (codes "button") [] (codes "Find")))

-- a form that asks for seven days by the first of them, which is one of the days that have a date here. It needs no script: a browser
-- asks for the path with `?from=` and the day behind it
abbrev pub week_form : List ℕ
week_form =
    element (codes "form") (codes " action=\"/pages/calendar\"") (
    element (codes "label") [] (
    codes "Deadlines in the seven days from "
    ++ codes "<input type=\"date\" name=\"from\" min=\"1980-01-01\" max=\"3999-12-31\" required>")
    ++ (codes " " ++ element (codes "button") [] (codes "Show")))

-- a link to a page of the docket by its name
abbrev pub page_link : List ℕ × List ℕ → List ℕ
page_link page = link (codes "/pages/" ++ page.0) page.1 ++ codes "\n"

-- the pages to which each page leads, by their names and what they are called
abbrev pub site_pages : List (List ℕ × List ℕ)
site_pages =
    (codes "cases", codes "Cases")
    ∷ (codes "today", codes "Today")
    ∷ (codes "week", codes "This week")
    ∷ (codes "overdue", codes "Overdue")
    ∷ (codes "enter", codes "Enter")
    ∷ (codes "court-days", codes "Court days")
    ∷ (codes "rules", codes "Rules")
    ∷ []

-- what the content of each page begins with: links to those pages, and the two forms
unfoldable pub site_nav : List ℕ
site_nav =
    nav (codes "Docket") (
    flat_map page_link site_pages
    ++ (search_form ++ (codes "\n" ++ week_form)))
    ++ codes "\n"

-- the day of the request of a page that shows the docket, for those who print it
abbrev pub printed_on : ℕ → List ℕ
printed_on day = element (codes "p") (codes " class=\"printed\"") (codes "Printed on " ++ (day_text day ++ (codes " " ++ weekday_word (weekday day))))

-- what ends such a page
abbrev pub site_foot : ℕ → List ℕ
site_foot day = printed_on day ++ (codes "\n" ++ page_foot)

-- a link to the list of the cases before a number
abbrev pub cases_link : ℕ → List ℕ → List ℕ
cases_link before words = link (codes "/pages/cases?before=" ++ decimal before) words

-- links to the cases that are newer than those of a list and to those that are older, where there are any
abbrev pub more_nav : List ℕ → List ℕ
more_nav links = nav (codes "More cases") links ++ codes "\n"

abbrev pub more_cases : Option ℕ → Option ℕ → List ℕ
more_cases None None = []
more_cases (Some newer) None = more_nav (cases_link newer (codes "Newer cases"))
more_cases None (Some older) = more_nav (cases_link older (codes "Older cases"))
more_cases (Some newer) (Some older) =
    more_nav (cases_link newer (codes "Newer cases") ++ (codes " " ++ cases_link older (codes "Older cases")))

-- the page of a list of cases, a row each; `newer` and `older` are the numbers before which the cases are that are newer and older
abbrev pub cases_page : List CaseRow → Option ℕ → Option ℕ → ℕ → List ℕ
cases_page cases newer older day =
    page_head (codes "Cases")
    ++ (site_nav
    ++ (cases_head
    ++ (flat_map case_row cases
    ++ (cases_foot
    ++ (more_cases newer older
    ++ site_foot day)))))

-- the page of a search: its words, the cases found, and whether there are more
abbrev pub words_told : List ℕ → List ℕ
words_told words = element (codes "p") [] (codes "Cases found by " ++ told words) ++ codes "\n"

abbrev pub found_told : List CaseRow → List ℕ
found_told [] = element (codes "p") [] (codes "No docket number, caption or name has these words.") ++ codes "\n"
found_told (case ∷ cases) = cases_head ++ (flat_map case_row (case ∷ cases) ++ cases_foot)

abbrev pub more_told : Bool → List ℕ
more_told true = element (codes "p") [] (codes "There are more. Longer words find fewer.") ++ codes "\n"
more_told false = []

abbrev pub search_page : List ℕ → List CaseRow → Bool → ℕ → List ℕ
search_page words cases more day =
    page_head (codes "Search")
    ++ (site_nav
    ++ (words_told words
    ++ (found_told cases
    ++ (more_told more
    ++ site_foot day))))

-- the page of a case: its docket sheet under its label
abbrev pub case_page : CourtSettings → CaseRecord → List DeadlineLine → ℕ → List ℕ
case_page court case deadlines day = page_head case.label ++ (site_nav ++ (case_sheet Pages court case deadlines ++ site_foot day))

-- links to what is due as files that other programs read: a calendar to which a program subscribes, whose days are those about the day of
-- each request, and tables of the days from one to another
abbrev pub export_link : List ℕ → ℕ → ℕ → List ℕ → List ℕ
export_link file from to words =
    link (codes "/pages/" ++ (file ++ (codes "?from=" ++ (day_text from ++ (codes "&amp;to=" ++ day_text to))))) words

abbrev pub exports_nav : ℕ → ℕ → List ℕ
exports_nav from to =
    nav (codes "Exports") (
    link (codes "/pages/due.ics") (codes "Calendar to subscribe to")
    ++ (codes " "
    ++ (export_link (codes "due.csv") from to (codes "CSV")
    ++ (codes " " ++ export_link (codes "due.json") from to (codes "JSON")))))
    ++ codes "\n"

-- the page of what is due from a day to another, up to its rows, and behind them
abbrev pub days_page_head : DueList → CourtSettings → ℕ → ℕ → List ℕ
days_page_head list court from to = page_head (list_title list) ++ (site_nav ++ week_head list court from to)

abbrev pub days_page_foot : ℕ → ℕ → ℕ → List ℕ
days_page_foot from to day = week_foot ++ (exports_nav from to ++ site_foot day)

-- the page of a text of several lines, and of one of the docket on a day
abbrev pub text_told : List ℕ → List ℕ
text_told text = lines_told text ++ codes "\n"

abbrev pub text_page : List ℕ → List ℕ → List ℕ
text_page title text = page_head title ++ (site_nav ++ (text_told text ++ page_foot))

abbrev pub printed_page : List ℕ → List ℕ → ℕ → List ℕ
printed_page title text day = page_head title ++ (site_nav ++ (text_told text ++ site_foot day))

-- whether what a deadline asks for was done in time
abbrev pub filed_told : Filed → List ℕ
filed_told Unfiled = []
filed_told InTime = element (codes "p") [] (codes "By the present calendar it was done in time.") ++ codes "\n"
filed_told Late = element (codes "p") (codes " class=\"late\"") (codes "By the present calendar it was done late.") ++ codes "\n"
filed_told Untimed = element (codes "p") [] (codes "By the present calendar no time was running when it was done.") ++ codes "\n"

-- the page of why a deadline stands as it does: the text that says it, whether what it asks for was done in time, and links to its case
-- and to the forms in which is entered what acts on it
abbrev pub reasons_title : ℕ → ℕ → List ℕ
reasons_title case deadline = codes "Why deadline " ++ (decimal deadline ++ (codes " of case " ++ (decimal case ++ codes " stands as it does")))

abbrev pub case_back : ℕ → List ℕ
case_back case = element (codes "p") [] (codes "Case " ++ case_link case) ++ codes "\n"

abbrev pub reasons_page : ℕ → ℕ → List ℕ → Filed → ℕ → List ℕ
reasons_page case deadline text filed day =
    page_head (reasons_title case deadline)
    ++ (site_nav
    ++ (case_back case
    ++ (filed_told filed
    ++ (enter_nav (Deadline case deadline) deadline_kinds
    ++ (text_told text
    ++ site_foot day)))))

-- a row of the court's calendar: its number, by which it is withdrawn, what it enters, and its name
unfoldable pub calendar_told : CalendarRow → List ℕ → List ℕ
calendar_told entered item = row (head_cell (decimal entered.number) ++ (number_cell (told item) ++ cell (told entered.name)))

abbrev pub calendar_row : CourtSettings → CalendarRow → List ℕ
calendar_row court entered = calendar_told entered (item_text court entered.item)

abbrev pub calendar_head : List ℕ
calendar_head = table_head (codes "Row" ∷ codes "Entered" ∷ codes "Name" ∷ [])

-- the page of the rows that the court entered, and links to the forms that change them
abbrev pub court_days_page : CourtSettings → List CalendarRow → ℕ → List ℕ
court_days_page court rows day =
    page_head (codes "Court days")
    ++ (site_nav
    ++ (enter_nav Nothing calendar_kinds
    ++ (calendar_head
    ++ (flat_map (calendar_row court) rows
    ++ (table_foot
    ++ site_foot day)))))
