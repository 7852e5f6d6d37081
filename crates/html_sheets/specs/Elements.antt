-- Elements of HTML (HTML Living Standard, 13.1.2), and those of which the sheets are made.
use Rattle.std.specs.Prelude.{ℕ, List, [], ◌∷◌, ◌++◌, codes, decimal}
use Rattle.std.specs.List.{flat_map}
use Rattle.civil_time.specs.Civil.{weekday}
use Rattle.civil_time.specs.DayText.{day_text}
use Rattle.docket_text.specs.HolidayNames.{weekday_word}
use Rattle.html_sheets.specs.Escapes.{escaped, lined}
use Rattle.html_sheets.specs.declared.links.Links.{Links}
use Rattle.html_sheets.specs.declared.links.Links.TheVariants.{Pages, None}

-- an element of a name: its start tag with its attributes, what it holds, and its end tag
unfoldable pub element : List ℕ → List ℕ → List ℕ → List ℕ
element name attributes content = (60 ∷ name) ++ (attributes ++ (62 ∷ content ++ (codes "</" ++ (name ++ 62 ∷ []))))

-- a text of the docket: a mark of direction within it has no effect beyond it
abbrev pub told : List ℕ → List ℕ
told text = element (codes "bdi") [] (escaped text)

-- a text of several lines, as it stands
abbrev pub lines_told : List ℕ → List ℕ
lines_told text = element (codes "pre") [] (lined text)

-- a day
abbrev pub day_told : ℕ → List ℕ
day_told day = element (codes "time") [] (day_text day)

-- a day and its weekday
abbrev pub weekday_told : ℕ → List ℕ
weekday_told day = day_told day ++ 32 ∷ weekday_word (weekday day)

-- a link to the path
abbrev pub link : List ℕ → List ℕ → List ℕ
link path content = element (codes "a") (codes " href=\"" ++ (path ++ codes "\"")) content

-- links that belong together, with the name that a screen reader gives them
abbrev pub nav : List ℕ → List ℕ → List ℕ
nav label links = element (codes "nav") (codes " aria-label=\"" ++ (label ++ codes "\"")) links

-- a link to the page of a case, by its number
abbrev pub case_link : ℕ → List ℕ
case_link number = link (codes "/pages/cases/" ++ decimal number) (decimal number)

-- a case by its number, which leads to its page where there are pages
abbrev pub case_number : Links → ℕ → List ℕ
case_number Pages number = case_link number
case_number None number = decimal number

-- a deadline of a case by its number, which leads to its page where there are pages
abbrev pub deadline_number : Links → ℕ → ℕ → List ℕ
deadline_number Pages case number =
    link (codes "/pages/cases/" ++ (decimal case ++ (codes "/deadlines/" ++ decimal number))) (decimal number)
deadline_number None case number = decimal number

-- cells of a row, of texts and of numbers and times, and the one that heads the row
abbrev pub cell : List ℕ → List ℕ
cell content = element (codes "td") [] content

abbrev pub number_cell : List ℕ → List ℕ
number_cell content = element (codes "td") (codes " class=\"number\"") content

abbrev pub head_cell : List ℕ → List ℕ
head_cell content = element (codes "th") (codes " scope=\"row\" class=\"number\"") content

-- a row of a table
abbrev pub row : List ℕ → List ℕ
row cells = element (codes "tr") [] cells ++ codes "\n"

-- a table up to its rows, with the heads of its columns, and what ends it
abbrev pub table_head : List (List ℕ) → List ℕ
table_head columns =
    codes "<table>\n<thead>\n"
    ++ (row (flat_map (λ column. element (codes "th") (codes " scope=\"col\"") column) columns) ++ codes "</thead>\n<tbody>\n")

unfoldable pub table_foot : List ℕ
table_foot = codes "</tbody>\n</table>\n"
