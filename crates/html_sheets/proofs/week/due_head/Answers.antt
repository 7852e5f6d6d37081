use Rattle.std.proofs.Common.{◌∙◌}
use Rattle.std.proofs.lemmas.Result.{IfOk-weaker}
use Rattle.html_sheets.specs.Elements.{weekday_told}
use Rattle.html_sheets.proofs.ElementLemmas.{days_parts}
use Rattle.html_sheets.proofs.week.due_head.Goals as goal

pub returns : goal.returns
returns c =
    let parts = days_parts (weekday_told c.args.from) (weekday_told c.args.to) c.due_columns-columns.result.now in
    rw (c.due_columns-columns.ensures) at (IfOk-weaker c.format.result _ _ (λ text is. is ∙ parts) c.format.ensures.ok)
