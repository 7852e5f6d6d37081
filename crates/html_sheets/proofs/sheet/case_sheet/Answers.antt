use Rattle.std.proofs.Common.{◌++◌, ◌∙◌, ap, refl}
use Rattle.html_sheets.specs.Sheets.{case_head, entering, parties_table, entries_table, deadlines_table}
use Rattle.html_sheets.proofs.ElementLemmas.{added, five_joined}
use Rattle.html_sheets.proofs.sheet.case_sheet.Goals as goal

pub returns : goal.returns
returns c =
    let lead = c.args.links in
    let case = c.args.case.now in
    let head = c.in_ok-push_case.ensures ∙ ap (λ z. z ++ case_head case) c.new-text.ensures.bytes in
    let forms = added c.in_ok-push_entering.ensures head refl in
    let parties = added c.in_ok-push_parties_table.ensures forms refl in
    let entries = added c.in_ok-push_entries_table.ensures parties (ap entries_table c.as_slice.ensures) in
    added c.in_ok-push_deadlines_table.ensures entries refl
    ∙ five_joined (case_head case) (entering lead case.number) (parties_table lead case) (entries_table case.entries) (deadlines_table lead c.args.court.now case c.args.deadlines.now)
