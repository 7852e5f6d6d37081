use Rattle.std.proofs.Common.{subst, sym, IfOk}
use Rattle.docket_http.specs.Answer.{missing}
use Rattle.docket_http.specs.Reply.{IsReply}
use Rattle.docket_http.specs.declared.head.Form.{Form}
use Rattle.docket_http.proofs.asking.missing_reply.Goals as goal

pub returns-in-Html-clause-reply : goal.returns-in-Html-clause-reply
returns-in-Html-clause-reply c =
    subst (λ (form : Form). IfOk c.words_reply.result (λ reply. IsReply reply (missing form))) (sym c.in-Html.is) c.words_reply.ensures.reply
