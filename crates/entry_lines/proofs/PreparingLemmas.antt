-- What a docket says of the names in a command.
use Rattle.std.proofs.Common.{◌≡◌, ◌∙◌, ℕ, List, Option, ap, ap₂}
use Rattle.std.specs.Prelude.{unwrap_or}
use Rattle.docket_command.specs.declared.field.Field.{Field}
use Rattle.docket_history.specs.Histories.{History, case_rows, parties_of_case, party_rows}
use Rattle.docket_history.specs.Records.{case_labelled}
use Rattle.docket_history.specs.declared.row.CaseRow.{CaseRow}
use Rattle.docket_history.specs.declared.row.PartyRow.{PartyRow}
use Rattle.entry_lines.specs.Lines.{fields_named, pairs_meant, parties_meant}
use Rattle.entry_lines.specs.Names.{case_found, case_meant, case_text}

-- the pairs by the case and the parties that the docket found
pub fields_found : (h : History) (given : List (Field × List ℕ)) (text : List ℕ) (labelled : Option CaseRow) (case : Option ℕ) (number : ℕ) (parties : List PartyRow)
    → text ≡ case_text given → labelled ≡ case_labelled (case_rows h) text → case ≡ case_found text labelled → number ≡ unwrap_or case 0
    → parties ≡ parties_of_case number (party_rows h) → pairs_meant case parties given ≡ fields_named h given
fields_found h given text labelled case number parties of_text of_label of_case of_number of_parties =
    let case_is : case ≡ case_meant h (case_text given) = of_case ∙ ap (case_found text) of_label ∙ ap (case_meant h) of_text in
    let parties_are : parties ≡ parties_meant h (case_meant h (case_text given)) = of_parties ∙ ap (λ (n : ℕ). parties_of_case n (party_rows h)) of_number ∙ ap (parties_meant h) case_is in
    ap₂ (λ c ps. pairs_meant c ps given) case_is parties_are
