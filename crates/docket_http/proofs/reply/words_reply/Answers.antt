use Rattle.std.proofs.Common.{subst, IfOk, List, ℕ}
use Rattle.docket_http.specs.Answer.{page}
use Rattle.docket_http.specs.Reply.{IsReply}
use Rattle.docket_http.proofs.reply.words_reply.Goals as goal

pub returns-clause-reply : goal.returns-clause-reply
returns-clause-reply c = subst (λ (body : List ℕ). IfOk c.built.result (λ reply. IsReply reply (page c.args.status body))) c.in_ok-text.ensures c.built.ensures.reply
