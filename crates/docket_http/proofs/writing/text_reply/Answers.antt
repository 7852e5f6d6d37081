use Rattle.std.proofs.Common.{subst, IfOk, List, ℕ}
use Rattle.docket_wire.specs.Texts.{reply_text}
use Rattle.docket_http.specs.Answer.{json}
use Rattle.docket_http.specs.Reply.{IsReply}
use Rattle.docket_http.proofs.writing.text_reply.Goals as goal

pub returns-clause-reply : goal.returns-clause-reply
returns-clause-reply c =
    let result = c.json_reply.result in
    subst (λ (status : ℕ). IfOk result (λ reply. IsReply reply (json status (reply_text c.args.said.now)))) c.status_of.ensures
    (subst (λ (body : List ℕ). IfOk result (λ reply. IsReply reply (json c.status_of.result body))) c.in_ok-text.ensures c.json_reply.ensures.reply)
