use Rattle.std.proofs.Common.{◌≡◌, ◌∙◌, ap, arith, Some}
use Rattle.sqlite_value.specs.Order.{column}
use Rattle.docket_decisions.specs.Outcomes.{replied}
use Rattle.docket_wire.specs.Writing.{canonical}
use Rattle.docket_columns.specs.Cells.{kept_as}
use Rattle.docket_columns.proofs.ReceiptLemmas.{kept_is}
use Rattle.docket_columns.proofs.receipt.kept_by.Goals as goal

pub returns-clause-kept : goal.returns-clause-kept
returns-clause-kept c = λ r asked fits ok e is.
    let text = c.in_ok-stored.ensures.reads (canonical r.command) (ap (λ row. column row 1) is) in
    let reply = c.in_ok-reply.ensures.reads r.command.key (canonical r.command) r.reply.number fits.1 is in
    let stored : c.in_ok-stored.stored.now ≡ canonical r.command = grind (arith, text, c.in_ok-stored.stored-is) in
    let same : c.in_ok-reply.reply ≡ replied r.reply.number = grind (arith, reply) in
    ap Some (c.kept_as.ensures
    ∙ ap (λ t. kept_as t c.in_ok-reply.reply.number c.args.body.now) stored
    ∙ ap (λ n. kept_as (canonical r.command) n.number c.args.body.now) same
    ∙ kept_is r asked _ fits ok e)
