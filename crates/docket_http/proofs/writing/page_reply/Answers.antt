use Rattle.std.proofs.Common.{sym, subst, IfOk, List, ℕ, Result}
use Rattle.command_forms.specs.Forms.{texts_of}
use Rattle.docket_command.specs.declared.refusal.Refusal.{Refusal}
use Rattle.docket_command.specs.declared.refusal.Reply.{Reply as Number}
use Rattle.docket_http.specs.Answer.{seen}
use Rattle.docket_http.specs.Entering.{page_said}
use Rattle.docket_http.specs.Reply.{IsReply}
use Rattle.docket_http.specs.declared.head.Form.TheVariants.{Seen}
use Rattle.docket_http.specs.declared.place.Place.{Place}
use Rattle.docket_http.proofs.writing.page_reply.Goals as goal

pub returns-in-Ok-clause-reply : goal.returns-in-Ok-clause-reply
returns-in-Ok-clause-reply c =
    let result = c.built.result in
    subst (λ (said : Result Number Refusal). IfOk result (λ reply. IsReply reply (page_said c.args.fresh (texts_of c.args.pairs.now) c.args.command.now said))) (sym c.in-Ok.is)
    (subst (λ (place : Place). IfOk result (λ reply. IsReply reply (seen place))) c.place_after-place.ensures
    (subst (λ (body : List ℕ). IfOk result (λ reply. IsReply reply (record { status = 303; form = Seen c.place_after-place.result; body = body }))) c.new.ensures.bytes c.built.ensures.reply))

pub returns-in-Err-clause-reply : goal.returns-in-Err-clause-reply
returns-in-Err-clause-reply c =
    subst (λ (said : Result Number Refusal). IfOk c.form_page.result (λ reply. IsReply reply (page_said c.args.fresh (texts_of c.args.pairs.now) c.args.command.now said))) (sym c.in-Err.is)
    c.form_page.ensures.reply
