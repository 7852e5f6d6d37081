use Rattle.std.proofs.Common.{◌++◌, List, ℕ, ◌∙◌, ap, string_bytes}
use Rattle.std.proofs.lemmas.Result.{on_ok_weaker}
use Rattle.docket_text.specs.CaseTexts.{standing_text}
use Rattle.docket_text.specs.Parties.{party_text}
use Rattle.html_sheets.specs.Elements.{told, deadline_number}
use Rattle.html_sheets.specs.RuleWords.{rule_told}
use Rattle.html_sheets.specs.Sheets.{deadline_row}
use Rattle.html_sheets.proofs.ElementLemmas.{deadline_parts}
use Rattle.html_sheets.proofs.sheet.push_deadline.Goals as goal

pub returns : goal.returns
unfolding deadline_row
returns c =
    let row = c.args.deadline.now in
    let case = c.args.case.now in
    let parts = deadline_parts (deadline_number c.args.links case.number row.number) (party_text row.party) (told c.party_name.result.now) (rule_told c.as_str.result.now) (standing_text c.args.court.now row.close row.standing) in
    rw (c.party_name.ensures, c.as_slice.ensures, c.as_str.ensures) at (on_ok_weaker c.write.result (λ is. is ∙ ap (λ (bytes : List ℕ). string_bytes c.args.text.now ++ bytes) parts) c.write.ensures.bytes)
