-- The case of a deadline in a list, which is kept between two of them.
use Rattle.std.specs.Prelude.{◌≡◌, ◌≤◌, ℕ, List, [], All, length, Option, IfSome, unwrap_or}
use Rattle.docket_history.specs.Histories.{History, case_rows, parties_of_case, party_rows}
use Rattle.docket_history.specs.Records.{case_at}
use Rattle.docket_history.specs.declared.record.DueRow.{DueRow}
use Rattle.docket_history.specs.declared.row.CaseRow.{CaseRow}
use Rattle.docket_questions.specs.declared.kept.CaseAsked.{CaseAsked}

-- there is a case of the number
abbrev pub IsCase : List CaseRow → ℕ → Type 0
IsCase rows number = (1 ≤ number) × (number ≤ length rows)

-- each of these deadlines has its case
abbrev pub HaveCases : History → List DueRow → Type 0
HaveCases h dues = All (λ due. IsCase (case_rows h) due.case) dues

-- the case of a number; `no_case` is never told, since each deadline that falls due has its case
abbrev pub no_case : CaseRow
no_case = record { number = 0; label = []; caption = []; filed = 0 }

abbrev pub case_of : List CaseRow → ℕ → CaseRow
case_of rows number = unwrap_or (case_at rows number) no_case

-- the case of its number in the docket of a history, with its parties
abbrev pub IsOfDocket : History → CaseAsked → Type 0
IsOfDocket h asked = (asked.case ≡ case_of (case_rows h) asked.number) × (asked.parties.items ≡ parties_of_case asked.number (party_rows h))

-- whatever case is kept is one
abbrev pub KeepsCase : History → Option CaseAsked → Type 0
KeepsCase h kept = IfSome kept (IsOfDocket h)
