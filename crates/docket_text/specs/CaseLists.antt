-- The text of a list of cases.
use Rattle.std.specs.Prelude.{ℕ, List, [], ◌∷◌, codes, decimal}
use Rattle.civil_time.specs.DayText.{day_text}
use Rattle.docket_history.specs.declared.row.CaseRow.{CaseRow}
use Rattle.docket_text.specs.Lines.{line}

-- the line of a case: its number, its label, the day on which it was filed, and its caption
abbrev pub case_list_line : CaseRow → List ℕ
case_list_line row = line (codes "case" ∷ decimal row.number ∷ row.label ∷ codes "filed" ∷ day_text row.filed ∷ row.caption ∷ [])
