use Rattle.std.proofs.Common.{◌∙◌, sym}
use Rattle.docket_columns.proofs.PlainLemmas.{bound_is}
use Rattle.docket_columns.proofs.cell.has_values.Goals as goal

pub returns-then-column_count-values : goal.returns-then-column_count-values
returns-then-column_count-values c = λ cells plain e.
    let is = bound_is _ cells plain e in
    (λ same. c.are_values.ensures.0 same ∙ is, λ same. c.are_values.ensures.1 (same ∙ sym is))
