use Rattle.std.proofs.Common.{Some, refl, subst}
use Rattle.docket_applying.specs.Applying.{Asks}
use Rattle.docket_questions.specs.declared.dues.Dues.{Dues}
use Rattle.http_request.specs.declared.wish.Wish.TheVariants.{Export as ExportWish}
use Rattle.docket_http.specs.Answer.{found}
use Rattle.docket_http.specs.Asked.{text_asked}
use Rattle.docket_http.specs.Reply.{IsReply}
use Rattle.docket_http.specs.declared.head.Form.TheVariants.{Export}
use Rattle.docket_http.proofs.OnlyLemmas.{question}
use Rattle.docket_http.proofs.asking.export_reply.Goals as goal

pub returns : goal.returns
returns g c = λ body.
    let docket = c.args.docket.now in
    let now = c.question_reply.new.docket in
    let export = c.args.export in
    let wish = ExportWish export c.args.days c.args.fresh in
    let result = c.question_reply.result in
    question g.S.Store docket now wish wish body result refl refl refl refl refl c.question_reply.ensures.only
    (λ h stands. subst (λ (dues : Dues). Asks g.S.Store now h (λ reply. IsReply reply (found (Export export) (Some (text_asked docket.court h dues)))) result)
    c.exported-dues.ensures (c.question_reply.ensures.answer h stands))
