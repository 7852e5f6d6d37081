use Rattle.std.proofs.Common.{subst, IfOk, List, ℕ}
use Rattle.docket_http.specs.Answer.{json}
use Rattle.docket_http.specs.Reply.{IsReply}
use Rattle.docket_http.proofs.writing.text_fault.Goals as goal

pub returns-clause-reply : goal.returns-clause-reply
returns-clause-reply c = subst (λ (body : List ℕ). IfOk c.json_reply.result (λ reply. IsReply reply (json 400 body))) c.in_ok-text.ensures c.json_reply.ensures.reply
