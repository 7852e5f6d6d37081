use Rattle.std.proofs.Common.{◌∙◌, Err, Ok, ap, inl, inr, refl, subst, sym}
use Rattle.command_forms.specs.Forms.{texts_of}
use Rattle.docket_applying.specs.Applying.{Asks}
use Rattle.http_request.specs.declared.wish.Wish.TheVariants.{Preview}
use Rattle.docket_http.specs.Answer.{Response}
use Rattle.docket_http.specs.Entering.{fault_response, in_pages}
use Rattle.docket_http.specs.Reply.{IsReply}
use Rattle.docket_http.proofs.AskingLemmas.{as_short}
use Rattle.docket_http.proofs.OnlyLemmas.{alone, question, unread}
use Rattle.docket_http.proofs.PreviewLemmas.{previewed, previewed_closed}
use Rattle.docket_http.proofs.previews.preview_reply.Goals as goal

pub returns-in_err-pairs : goal.returns-in_err-pairs
returns-in_err-pairs g c = λ len. unread g.S.Store c.args.docket.now (Preview len c.args.fresh) c.args.body.now c.from_residual.result refl (inr refl)
    (as_short c.from_residual.result c.in_err-pairs.field-0.0 c.from_residual.ensures.1 c.in_err-pairs.ensures.short)

pub returns-in-Ok : goal.returns-in-Ok
returns-in-Ok g c =
    let old = c.args.docket.now in
    let now = c.foreseen_reply.new.docket in
    let fresh = c.args.fresh in
    let body = c.args.body.now in
    let result = c.foreseen_reply.result in
    let pairs = texts_of c.deref.result.now in
    let read = Ok c.in-Ok.command in
    let same = ap texts_of c.deref.ensures.value ∙ c.in_ok-pairs.ensures.pairs in
    let spelled = sym c.in-Ok.is ∙ c.in_ok-pairs.ensures.read in
    λ len. question g.S.Store old now (Preview len fresh) (Preview len fresh) body result refl refl refl refl
    (inl (previewed_closed fresh body pairs read same spelled)) c.foreseen_reply.ensures.only
    (λ h stands. subst (λ (response : Response). Asks g.S.Store now h (λ reply. IsReply reply response) result)
    (previewed old.court h fresh body pairs read same spelled) (c.foreseen_reply.ensures.answer h stands))

pub returns : goal.returns
returns g c =
    let fresh = c.args.fresh in
    let body = c.args.body.now in
    let pairs = texts_of c.deref-in-Err.result.now in
    let read = Err c.in-Err.fault in
    let same = ap texts_of c.deref-in-Err.ensures.value ∙ c.in_ok-pairs.ensures.pairs in
    let spelled = sym c.in-Err.is ∙ c.in_ok-pairs.ensures.read in
    λ len. alone g.S.Store c.args.docket.now (Preview len fresh) (Preview len fresh) body (fault_response (in_pages fresh pairs) c.in-Err.fault) c.form_page.result refl refl refl
    (λ court h. previewed court h fresh body pairs read same spelled) (inl (previewed_closed fresh body pairs read same spelled)) (inr refl)
    c.form_page.ensures.reply c.form_page.ensures.short
