-- The head and the foot of a page, and the list of cases.
use Rattle.std.specs.Prelude.{ℕ, List, [], ◌∷◌, ◌++◌, codes}
use Rattle.docket_history.specs.declared.row.CaseRow.{CaseRow}
use Rattle.html_sheets.specs.Elements.{element, told, day_told, case_link, cell, head_cell, row, table_head, table_foot}
use Rattle.html_sheets.specs.Escapes.{escaped}
use Rattle.html_sheets.specs.Styles.{style_text}

-- a page from its first byte up to its content
abbrev pub page_head : List ℕ → List ℕ
page_head title =
    codes "<!DOCTYPE html>\n<html lang=\"en\">\n<head>\n<meta charset=\"utf-8\">\n"
    ++ (codes "<meta name=\"viewport\" content=\"width=device-width, initial-scale=1\">\n"
    ++ (element (codes "title") [] (escaped title)
    ++ (codes "\n"
    ++ (element (codes "style") [] style_text
    ++ (codes "\n</head>\n<body>\n<main>\n"
    ++ (element (codes "h1") [] (told title)
    ++ codes "\n"))))))

-- and from there to its end
abbrev pub page_foot : List ℕ
page_foot = codes "</main>\n</body>\n</html>\n"

-- the list of cases up to its rows
abbrev pub cases_head : List ℕ
cases_head = table_head (codes "Case" ∷ codes "Docket number" ∷ codes "Filed" ∷ codes "Caption" ∷ [])

-- the row of a case: its number, which leads to its page, its docket number, the day on which it was filed, and its caption
unfoldable pub case_row : CaseRow → List ℕ
case_row case =
    row (head_cell (case_link case.number)
    ++ (cell (told case.label)
    ++ (cell (day_told case.filed)
    ++ cell (told case.caption))))

abbrev pub cases_foot : List ℕ
cases_foot = table_foot
