-- Links to the forms, to the lists of cases and to the exports, as they are asked for.
use Rattle.std.specs.Prelude.{ℕ, ◌<◌, ◌^◌, List, ◌++◌, codes, decimal}
use Rattle.civil_time.specs.DayText.{day_text}
use Rattle.docket_command.specs.Names.{command_word}
use Rattle.docket_command.specs.declared.command_name.CommandName.{CommandName}
use Rattle.html_sheets.specs.Entering.{about_query}
use Rattle.html_sheets.specs.declared.about.About.{About}
use Rattle.html_sheets.specs.declared.about.About.TheVariants.{Nothing, Case, Party, Deadline}
use Rattle.http_request.specs.declared.export.Export.{Export}
use Rattle.http_request.specs.declared.export.Export.TheVariants as export
use Rattle.http_request.specs.declared.page.Routes.{Routes}
use Rattle.http_request.specs.declared.page.Routes.TheVariants.{Docket, Guarded, WithPages}

-- the target of a link to the form of a kind, which is filled in with what the link is about
abbrev pub form_target : CommandName → About → List ℕ
form_target kind about = codes "/pages/enter/" ++ (command_word kind ++ about_query about)

-- the target of a link to the cases before the one of a number
abbrev pub list_target : ℕ → List ℕ
list_target number = codes "/pages/cases?before=" ++ decimal number

-- the target of a link to an export of the days about that of the request
abbrev pub export_path : Export → List ℕ
export_path export.Calendar = codes "/pages/due.ics"
export_path export.Csv = codes "/pages/due.csv"
export_path export.Json = codes "/pages/due.json"

-- the target of a link to an export of the days from one to another
abbrev pub export_target : Export → ℕ → ℕ → List ℕ
export_target form from to = export_path form ++ (codes "?from=" ++ (day_text from ++ (codes "&to=" ++ day_text to)))

-- the pages are shown
abbrev pub AreShown : Routes → Type 0
AreShown Docket = ⊥
AreShown (Guarded origins) = ⊥
AreShown (WithPages origins) = Unit {0}

-- the number of a case, a party or a deadline: 1 to 4294967295
abbrev pub IsNumber : ℕ → Type 0
IsNumber number = (0 < number) × (number < 2 ^ 32)

abbrev pub HasNumbers : About → Type 0
HasNumbers Nothing = Unit {0}
HasNumbers (Case case) = IsNumber case
HasNumbers (Party case party) = IsNumber case × IsNumber party
HasNumbers (Deadline case deadline) = IsNumber case × IsNumber deadline
