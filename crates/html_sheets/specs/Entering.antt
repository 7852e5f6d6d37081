-- Links to the forms in which commands are entered.
use Rattle.std.specs.Prelude.{ℕ, List, [], ◌∷◌, ◌++◌, codes, decimal}
use Rattle.std.specs.List.{flat_map}
use Rattle.docket_command.specs.Names.{command_word}
use Rattle.docket_command.specs.declared.command_name.CommandName.{CommandName}
use Rattle.docket_command.specs.declared.command_name.CommandName.TheVariants.{DeclareDay, CloseDay, CloseSpan, ShortDay, WithdrawCalendar, AddParty, FileEntry, ServeSummons, ServePleading, RuleMotion, Dispose, StatementServed, OrderPeriod, EnterJudgment, Extend, Satisfy, Vacate}
use Rattle.html_sheets.specs.Elements.{element, link, nav}
use Rattle.html_sheets.specs.Titles.{title_of}
use Rattle.html_sheets.specs.declared.about.About.{About}
use Rattle.html_sheets.specs.declared.about.About.TheVariants.{Nothing, Case, Party, Deadline}
use Rattle.html_sheets.specs.declared.links.Links.{Links}
use Rattle.html_sheets.specs.declared.links.Links.TheVariants.{Pages, None}

-- what a form is filled in with, as the query behind its path, with what stands for an ampersand
abbrev pub about_with : List ℕ → About → List ℕ
about_with ampersand Nothing = []
about_with ampersand (Case case) = codes "?case=" ++ decimal case
about_with ampersand (Party case party) = codes "?case=" ++ (decimal case ++ (ampersand ++ (codes "party=" ++ decimal party)))
about_with ampersand (Deadline case deadline) = codes "?case=" ++ (decimal case ++ (ampersand ++ (codes "deadline=" ++ decimal deadline)))

-- as a request has it
abbrev pub about_query : About → List ℕ
about_query about = about_with (codes "&") about

-- as an attribute has it, in which an ampersand is escaped
abbrev pub about_text : About → List ℕ
about_text about = about_with (codes "&amp;") about

-- a link to the form of a kind of command, whose words are its title
abbrev pub enter_link : About → CommandName → List ℕ
enter_link about kind = link (codes "/pages/enter/" ++ (command_word kind ++ about_text about)) (title_of kind)

abbrev pub enter_line : About → CommandName → List ℕ
enter_line about kind = enter_link about kind ++ codes "\n"

-- such links, one below the other in the text of the page
unfoldable pub enter_nav : About → List CommandName → List ℕ
enter_nav about kinds = nav (codes "Enter") (codes "\n" ++ flat_map (enter_line about) kinds) ++ codes "\n"

-- the commands that a clerk enters daily about a case, in the usual order
abbrev pub daily_kinds : List CommandName
daily_kinds =
    FileEntry
    ∷ AddParty
    ∷ ServeSummons
    ∷ ServePleading
    ∷ Satisfy
    ∷ Extend
    ∷ RuleMotion
    ∷ Dispose
    ∷ OrderPeriod
    ∷ EnterJudgment
    ∷ []

-- those that act on a deadline
abbrev pub deadline_kinds : List CommandName
deadline_kinds =
    Extend
    ∷ Satisfy
    ∷ Vacate
    ∷ RuleMotion
    ∷ Dispose
    ∷ StatementServed
    ∷ []

-- those that change the court's calendar
abbrev pub calendar_kinds : List CommandName
calendar_kinds =
    DeclareDay
    ∷ CloseDay
    ∷ CloseSpan
    ∷ ShortDay
    ∷ WithdrawCalendar
    ∷ []

-- behind the name of a party: links to the forms in which it is served, where there are pages
abbrev pub serve_links : Links → ℕ → ℕ → List ℕ
serve_links Pages case party =
    codes " "
    ++ element (codes "span") (codes " class=\"act\"") (
    enter_link (Party case party) ServeSummons
    ++ (codes " " ++ enter_link (Party case party) ServePleading))
serve_links None case party = []
