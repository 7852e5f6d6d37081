use Rattle.std.proofs.Common.{◌∙◌}
use Rattle.std.proofs.lemmas.Result.{IfOk-weaker}
use Rattle.docket_text.specs.Parties.{party_text}
use Rattle.html_sheets.specs.Elements.{told}
use Rattle.html_sheets.specs.Weeks.{due_cells}
use Rattle.html_sheets.specs.declared.links.Links.TheVariants.{Pages}
use Rattle.html_sheets.proofs.ElementLemmas.{named_parts}
use Rattle.html_sheets.proofs.week.named_row.Goals as goal

pub returns : goal.returns
returns c =
    let due = c.args.due.now in
    let parts = named_parts (due_cells Pages c.args.court.now due c.args.label.now) (party_text due.party) (told c.args.name.now) (told c.args.caption.now) in
    IfOk-weaker c.format.result _ _ (λ text is. is ∙ parts) c.format.ensures.ok
