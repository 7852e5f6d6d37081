use Rattle.std.proofs.Common.{◌∙◌, ◌∷◌, ap}
use Rattle.docket_tables.proofs.ReceiptLemmas.{first_there, kept_told}
use Rattle.docket_tables.proofs.rows.kept_in.Goals as goal

pub returns-clause-same : goal.returns-clause-same
returns-clause-same c reply same =
    let it = kept_told c.kept_by.result c.ok_or.result c.in-Some.row.now c.args.body.now c.ok_or.ensures.value c.kept_by.ensures.sound reply same in
    let first = first_there c.args.rows.now c.in-Some.row.now c.in-Some.ensures.value in
    (it.0, first.0, first.1 ∙ ap (λ row. row ∷ first.0) it.1)
