-- The page of the reasons for a deadline, by its path.
use Rattle.std.specs.Prelude.{ℕ, List, Option, codes, option_map, option_and_then}
use Rattle.std.specs.List.{before_first}
use Rattle.http_request.specs.declared.page.Page.{Page}
use Rattle.http_request.specs.declared.page.Page.TheVariants.{Reasons}
use Rattle.http_request.specs.Number.{number_of}
use Rattle.http_request.specs.Path.{behind}
use Rattle.http_request.specs.Target.{is_slash, behind_first}

-- the page of a deadline of a case, where both texts are numbers
abbrev pub reasons_page : List ℕ → List ℕ → Option Page
reasons_page first second = option_and_then (λ c. option_map (λ d. Reasons c d) (number_of second)) (number_of first)

-- the page that a path asks for by what stands behind "/cases/", where it goes on to a deadline
abbrev pub case_path : List ℕ → Option (Option Page)
case_path text =
    option_map (λ deadline. reasons_page (before_first is_slash text) deadline)
    (option_and_then (behind (codes "deadlines/")) (behind_first is_slash text))

-- the page that the rest of a path asks for, where that is `/cases/N/deadlines/D`. A number may be bad.
abbrev pub deadline_page : List ℕ → Option (Option Page)
deadline_page rest = option_and_then case_path (behind (codes "/cases/") rest)
