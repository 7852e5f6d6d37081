use Rattle.std.proofs.Common.{◌∙◌, Some, ap, inr, refl, sym}
use Rattle.command_forms.specs.Forms.{command_in_form, texts_of}
use Rattle.http_request.specs.declared.wish.Wish.TheVariants.{Form}
use Rattle.docket_http.specs.Entering.{in_pages}
use Rattle.docket_http.proofs.AskingLemmas.{as_short}
use Rattle.docket_http.proofs.OnlyLemmas.{unread}
use Rattle.docket_http.proofs.commands.form_reply.Goals as goal

pub returns-in_err-pairs : goal.returns-in_err-pairs
returns-in_err-pairs g c = λ len. unread g.S.Store c.args.docket.now (Form len c.args.fresh) c.args.body.now c.from_residual.result refl (inr refl)
    (as_short c.from_residual.result c.in_err-pairs.field-0.0 c.from_residual.ensures.1 c.in_err-pairs.ensures.short)

pub returns : goal.returns
returns g c =
    let fresh = c.args.fresh in
    let body = c.args.body.now in
    let form = c.in_ok-pairs.ensures in
    λ len. c.entry_reply.ensures (Form len fresh) body
    (ap (λ pairs. Some (record { read = command_in_form body; manner = in_pages fresh pairs })) (sym form.pairs)
    ∙ ap (λ read. Some (record { read = read; manner = in_pages fresh (texts_of c.in_ok-pairs.pairs.items) })) (sym form.read))
