-- The pages on which commands are entered.
use Rattle.std.specs.Prelude.{ℕ, List, ◌++◌, Option, Some, None, codes}
use Rattle.docket_command.specs.declared.command_name.CommandName.{CommandName}
use Rattle.docket_command.specs.declared.command_name.CommandName.TheVariants.{ImportCalendar}
use Rattle.docket_command.specs.Names.{command_named}
use Rattle.html_sheets.specs.Pages.{page_head, page_foot}
use Rattle.html_sheets.specs.Sites.{site_nav}
use Rattle.html_sheets.specs.Titles.{title_of}
use Rattle.entry_pages.specs.Forms.{entry_form, text_in}
use Rattle.entry_pages.specs.Kinds.{kind_groups}
use Rattle.entry_pages.specs.Saying.{Saying, said_head, said_told}

-- a page up to what is entered: its title, which begins with what was said, and the whole of that
unfoldable pub entry_head : List ℕ → Saying → List ℕ
entry_head title said = page_head (said_head said ++ title) ++ (site_nav ++ said_told said)

-- the page of the kinds of commands
unfoldable pub kinds_page : Saying → List ℕ
kinds_page said = entry_head (codes "Enter") said ++ (kind_groups ++ page_foot)

-- the page of a kind: its form
unfoldable pub entry_page : CommandName → ℕ → List (List ℕ × List ℕ) → Saying → List ℕ
entry_page kind fresh pairs said = entry_head (title_of kind) said ++ (entry_form kind fresh pairs said ++ page_foot)

-- the page of a kind, or that of all kinds where it is entered by no form
abbrev pub page_of : CommandName → ℕ → List (List ℕ × List ℕ) → Saying → List ℕ
page_of ImportCalendar fresh pairs said = kinds_page said
page_of kind fresh pairs said = entry_page kind fresh pairs said

abbrev pub page_of_named : Option CommandName → ℕ → List (List ℕ × List ℕ) → Saying → List ℕ
page_of_named None fresh pairs said = kinds_page said
page_of_named (Some kind) fresh pairs said = page_of kind fresh pairs said

-- a form that was sent, again: the page of the kind that it names
unfoldable pub form_again : ℕ → List (List ℕ × List ℕ) → Saying → List ℕ
form_again fresh pairs said = page_of_named (command_named (text_in (codes "do") pairs)) fresh pairs said
