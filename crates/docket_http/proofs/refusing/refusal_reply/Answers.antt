use Rattle.std.proofs.Common.{subst, IfOk, List, ℕ, codes}
use Rattle.html_sheets.specs.Sites.{text_page}
use Rattle.docket_http.specs.Answer.{page, rejection_sentence}
use Rattle.docket_http.specs.Reply.{IsReply}
use Rattle.docket_http.proofs.refusing.refusal_reply.Goals as goal

pub returns-clause-reply : goal.returns-clause-reply
returns-clause-reply c =
    let result = c.words_reply.result in
    subst (λ (status : ℕ). IfOk result (λ reply. IsReply reply (page status (text_page (codes "Request refused") (rejection_sentence c.args.rejection))))) c.status-status.ensures
    (subst (λ (words : List ℕ). IfOk result (λ reply. IsReply reply (page c.status-status.result (text_page (codes "Request refused") words)))) c.rejection_sentence.ensures c.words_reply.ensures.reply)
