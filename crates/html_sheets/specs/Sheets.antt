-- The docket sheet of a case.
use Rattle.std.specs.Prelude.{ℕ, zero, suc, List, [], ◌∷◌, ◌++◌, slice_get, codes, decimal, Option, Some, None}
use Rattle.std.specs.List.{flat_map}
use Rattle.court_days.specs.Court.{CourtSettings}
use Rattle.docket_command.specs.Words.{role_word}
use Rattle.docket_history.specs.declared.record.CaseRecord.{CaseRecord}
use Rattle.docket_history.specs.declared.record.DeadlineLine.{DeadlineLine}
use Rattle.docket_history.specs.declared.row.EntryRow.{EntryRow}
use Rattle.docket_history.specs.declared.row.PartyRow.{PartyRow}
use Rattle.docket_text.specs.CaseTexts.{standing_text}
use Rattle.docket_text.specs.Parties.{party_text}
use Rattle.html_sheets.specs.Elements.{element, told, day_told, deadline_number, cell, number_cell, head_cell, row, table_head, table_foot}
use Rattle.html_sheets.specs.Entering.{enter_nav, daily_kinds, serve_links}
use Rattle.html_sheets.specs.RuleWords.{rule_told}
use Rattle.html_sheets.specs.declared.about.About.TheVariants as about
use Rattle.html_sheets.specs.declared.links.Links.{Links}
use Rattle.html_sheets.specs.declared.links.Links.TheVariants as links

-- what is shown of the case itself, a line each under its word
abbrev pub said : List ℕ → List ℕ → List ℕ
said word content = element (codes "dt") [] word ++ (element (codes "dd") [] content ++ codes "\n")

unfoldable pub case_head : CaseRecord → List ℕ
case_head case =
    codes "<dl>\n"
    ++ (said (codes "Case") (decimal case.number)
    ++ (said (codes "Docket number") (told case.label)
    ++ (said (codes "Caption") (told case.caption)
    ++ (said (codes "Filed") (day_told case.filed)
    ++ codes "</dl>\n"))))

-- a table under its heading, up to its rows
abbrev pub section_head : List ℕ → List (List ℕ) → List ℕ
section_head heading columns = element (codes "h2") [] heading ++ (codes "\n" ++ table_head columns)

-- where there are pages, links to the forms in which is entered what happens in the case
abbrev pub entering : Links → ℕ → List ℕ
entering links.Pages case = enter_nav (about.Case case) daily_kinds
entering links.None case = []

-- the parties: the number of each, its role and its name, which leads to the forms in which it is served where there are pages
unfoldable pub parties_head : List ℕ
parties_head = section_head (codes "Parties") (codes "Party" ∷ codes "Role" ∷ codes "Name" ∷ [])

unfoldable pub party_row : Links → ℕ → PartyRow → List ℕ
party_row lead case party =
    row (head_cell (decimal party.number)
    ++ (cell (role_word party.role)
    ++ cell (told party.name ++ serve_links lead case party.number)))

-- the entries: the number of each, its day and its text
unfoldable pub entries_head : List ℕ
entries_head = section_head (codes "Entries") (codes "Entry" ∷ codes "Day" ∷ codes "Text" ∷ [])

unfoldable pub entry_row : EntryRow → List ℕ
entry_row entry = row (head_cell (decimal entry.number) ++ (cell (day_told entry.day) ++ cell (told entry.text)))

-- the party of a number, from 1, among those of a case, in the order of their numbers
abbrev pub party_at : List PartyRow → ℕ → Option PartyRow
party_at parties zero = None
party_at parties (suc n) = slice_get parties n

-- its name; none for every party
abbrev pub name_of : Option PartyRow → List ℕ
name_of None = []
name_of (Some party) = party.name

-- a party by its number and a name
abbrev pub party_named : ℕ → List ℕ → List ℕ
party_named party name = party_text party ++ (codes " " ++ told name)

-- the party whose time it is: its number, and its name
abbrev pub party_told : List PartyRow → ℕ → List ℕ
party_told parties party = party_named party (name_of (party_at parties party))

-- the deadlines: the number of each, which leads to its page where there are pages, the party whose time it is, its rule in words and by
-- its name, and where it stands
unfoldable pub deadlines_head : List ℕ
deadlines_head = section_head (codes "Deadlines") (codes "Deadline" ∷ codes "Party" ∷ codes "Rule" ∷ codes "Standing" ∷ [])

unfoldable pub deadline_row : Links → CourtSettings → CaseRecord → DeadlineLine → List ℕ
deadline_row lead court case deadline =
    row (head_cell (deadline_number lead case.number deadline.number)
    ++ (cell (party_told case.parties deadline.party)
    ++ (cell (rule_told deadline.rule)
    ++ number_cell (standing_text court deadline.close deadline.standing))))

-- each of the tables
unfoldable pub parties_table : Links → CaseRecord → List ℕ
parties_table lead case = parties_head ++ (flat_map (party_row lead case.number) case.parties ++ table_foot)

unfoldable pub entries_table : List EntryRow → List ℕ
entries_table entries = entries_head ++ (flat_map entry_row entries ++ table_foot)

unfoldable pub deadlines_table : Links → CourtSettings → CaseRecord → List DeadlineLine → List ℕ
deadlines_table lead court case deadlines = deadlines_head ++ (flat_map (deadline_row lead court case) deadlines ++ table_foot)

-- the case, links to the forms where there are pages, and a table with a row for each party, one for each entry and one for each deadline
abbrev pub case_sheet : Links → CourtSettings → CaseRecord → List DeadlineLine → List ℕ
case_sheet lead court case deadlines =
    case_head case
    ++ (entering lead case.number
    ++ (parties_table lead case
    ++ (entries_table case.entries
    ++ deadlines_table lead court case deadlines)))
