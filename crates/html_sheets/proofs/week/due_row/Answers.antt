use Rattle.std.proofs.Common.{◌∙◌}
use Rattle.std.proofs.lemmas.Result.{IfOk-weaker}
use Rattle.docket_text.specs.Parties.{party_text}
use Rattle.html_sheets.specs.Elements.{told}
use Rattle.html_sheets.specs.Weeks.{due_cells}
use Rattle.html_sheets.proofs.ElementLemmas.{due_parts}
use Rattle.html_sheets.proofs.week.due_row.Goals as goal

pub returns : goal.returns
returns c =
    let due = c.args.due.now in
    let parts = due_parts (due_cells c.args.links c.args.court.now due c.args.label.now) (party_text due.party) (told c.args.caption.now) in
    IfOk-weaker c.format.result _ _ (λ text is. is ∙ parts) c.format.ensures.ok
