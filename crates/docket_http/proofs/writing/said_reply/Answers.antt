use Rattle.std.proofs.Common.{sym, subst, IfOk, List}
use Rattle.command_forms.specs.Forms.{texts_of}
use Rattle.command_forms.specs.declared.pair.Pair.{Pair}
use Rattle.docket_http.specs.Entering.{in_pages, manner_of, said_response}
use Rattle.docket_http.specs.Reply.{IsReply}
use Rattle.docket_http.specs.declared.writing.Writing.{Writing}
use Rattle.docket_http.proofs.writing.said_reply.Goals as goal

pub returns-in-Json-clause-reply : goal.returns-in-Json-clause-reply
returns-in-Json-clause-reply c =
    subst (λ (writing : Writing). IfOk c.text_reply.result (λ reply. IsReply reply (said_response (manner_of writing) c.args.command.now c.args.said.now))) (sym c.in-Json.is) c.text_reply.ensures.reply

pub returns-in-Pages-clause-reply : goal.returns-in-Pages-clause-reply
returns-in-Pages-clause-reply c =
    let result = c.page_reply.result in
    subst (λ (writing : Writing). IfOk result (λ reply. IsReply reply (said_response (manner_of writing) c.args.command.now c.args.said.now))) (sym c.in-Pages.is)
    (subst (λ (pairs : List Pair). IfOk result (λ reply. IsReply reply (said_response (in_pages c.in-Pages.fresh (texts_of pairs)) c.args.command.now c.args.said.now)))
    c.deref.ensures.value c.page_reply.ensures.reply)
