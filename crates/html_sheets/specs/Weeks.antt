-- What is due in a week, or on other days.
use Rattle.std.specs.Prelude.{ℕ, ◌+◌, ◌-◌, Bool, true, false, max, min, List, [], ◌∷◌, ◌++◌, codes}
use Rattle.civil_time.specs.DayText.{day_text}
use Rattle.civil_time.specs.LocalTime.{local_day, local_minute}
use Rattle.civil_time.specs.MomentText.{clock_text}
use Rattle.court_days.specs.Court.{CourtSettings, zone_of}
use Rattle.court_days.specs.declared.filing.End.{End}
use Rattle.court_days.specs.declared.filing.End.TheVariants.{LastDay, Moment}
use Rattle.docket_history.specs.declared.record.DueRow.{DueRow}
use Rattle.docket_text.specs.Parties.{party_text}
use Rattle.docket_text.specs.Times.{shown, shown_minute}
use Rattle.html_sheets.specs.Elements.{element, told, weekday_told, link, nav, case_number, deadline_number, cell, number_cell, head_cell, row, table_head, table_foot}
use Rattle.html_sheets.specs.RuleWords.{rule_told}
use Rattle.html_sheets.specs.Sheets.{party_named}
use Rattle.html_sheets.specs.declared.due.Due.TheVariants.{Today, Week, Overdue}
use Rattle.html_sheets.specs.declared.due_list.DueList.{DueList}
use Rattle.html_sheets.specs.declared.due_list.DueList.TheVariants.{Days, By}
use Rattle.html_sheets.specs.declared.links.Links.{Links}
use Rattle.html_sheets.specs.declared.links.Links.TheVariants.{Pages}

-- the title of a list of what is due
abbrev pub list_title : DueList → List ℕ
list_title Days = codes "Deadlines"
list_title (By Today) = codes "Today"
list_title (By Week) = codes "This week"
list_title (By Overdue) = codes "Overdue"

-- seven days earlier and later, within the days that have a date here: 1980-01-01 to 3999-12-31
unfoldable pub week_before : ℕ → ℕ
week_before day = max 3652 (day - 7)

unfoldable pub week_after : ℕ → ℕ
week_after day = min 741_441 (day + 7)

-- a link to what is due on the days from one to another
abbrev pub days_link : ℕ → ℕ → List ℕ → List ℕ
days_link from to content = link (codes "/pages/calendar/" ++ (day_text from ++ (codes "/" ++ day_text to))) content

-- the table of what is due, up to its rows
unfoldable pub due_columns : List ℕ
due_columns =
    table_head (codes "Day" ∷ codes "Time" ∷ codes "Closing" ∷ codes "Case" ∷ codes "Docket number" ∷ codes "Deadline" ∷ codes "Rule" ∷ codes "Party" ∷ codes "Caption" ∷ [])

-- the days
abbrev pub days_told : ℕ → ℕ → List ℕ
days_told from to = element (codes "p") [] (weekday_told from ++ (codes " to " ++ weekday_told to))

-- what is due from a day to another, up to its rows: the days, and the table
abbrev pub days_head : ℕ → ℕ → List ℕ
days_head from to = days_told from to ++ (codes "\n" ++ due_columns)

-- the zone of the court, in which its times are
abbrev pub zone_told : CourtSettings → List ℕ
zone_told court = element (codes "p") [] (codes "Times are local, in the zone " ++ told court.zone_text)

-- whether a list leads to the days a week before and a week after: one of days that a reader chose does, and one by the day of today does not
abbrev pub has_weeks : DueList → Bool
has_weeks Days = true
has_weeks (By due) = false

abbrev pub weeks_nav : Bool → ℕ → ℕ → List ℕ
weeks_nav false from to = []
weeks_nav true from to =
    nav (codes "Other weeks") (
    days_link (week_before from) (week_before to) (codes "Week before")
    ++ (codes " " ++ days_link (week_after from) (week_after to) (codes "Week after")))
    ++ codes "\n"

-- the same, with that zone and those links between them
abbrev pub week_head : DueList → CourtSettings → ℕ → ℕ → List ℕ
week_head list court from to =
    days_told from to
    ++ (codes "\n"
    ++ (zone_told court
    ++ (codes "\n"
    ++ (weeks_nav (has_weeks list) from to
    ++ due_columns))))

-- the day, the time and the closing of the clerk's office. A last day runs to its midnight for electronic filing, and to the
-- closing on that day for other filing (Fed. R. Civ. P. 6(a)(4)). The day and the time of an instant are local, and no closing matters
abbrev pub end_cells : ℕ → List ℕ → List ℕ → List ℕ
end_cells day time closing = head_cell (weekday_told day) ++ (number_cell time ++ number_cell closing)

abbrev pub end_of_row : CourtSettings → ℕ → End → List ℕ
end_of_row court close (LastDay day) = end_cells day (codes "24:00") (clock_text (shown_minute close))
end_of_row court close (Moment at) =
    end_cells (local_day (zone_of court) (shown at)) (clock_text (local_minute (zone_of court) (shown at))) (codes "--:--")

-- a deadline whose time runs: its end, its case by its number and its docket number, its number within the case, and its rule. Its case
-- and its number lead to their pages where there are pages
abbrev pub due_cells : Links → CourtSettings → DueRow → List ℕ → List ℕ
due_cells links court due label =
    end_of_row court due.close due.end
    ++ (number_cell (case_number links due.case)
    ++ (number_cell (told label)
    ++ (number_cell (deadline_number links due.case due.number)
    ++ cell (rule_told due.rule))))

-- its row, with the number of the party whose time it is, and the caption of the case
abbrev pub due_row : Links → CourtSettings → DueRow → List ℕ → List ℕ → List ℕ
due_row links court due label caption =
    row (due_cells links court due label ++ (number_cell (party_text due.party) ++ cell (told caption)))

-- its row on a page of the docket, which has the name of that party too
abbrev pub named_row : CourtSettings → DueRow → List ℕ → List ℕ → List ℕ → List ℕ
named_row court due label name caption =
    row (due_cells Pages court due label ++ (cell (party_named due.party name) ++ cell (told caption)))

abbrev pub week_foot : List ℕ
week_foot = table_foot
