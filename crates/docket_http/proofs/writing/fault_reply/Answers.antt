use Rattle.std.proofs.Common.{sym, subst, IfOk, List}
use Rattle.command_forms.specs.Forms.{texts_of}
use Rattle.command_forms.specs.declared.pair.Pair.{Pair}
use Rattle.docket_http.specs.Entering.{fault_response, in_pages, manner_of}
use Rattle.docket_http.specs.Reply.{IsReply}
use Rattle.docket_http.specs.declared.writing.Writing.{Writing}
use Rattle.docket_http.proofs.writing.fault_reply.Goals as goal

pub returns-in-Json-clause-reply : goal.returns-in-Json-clause-reply
returns-in-Json-clause-reply c =
    subst (λ (writing : Writing). IfOk c.text_fault.result (λ reply. IsReply reply (fault_response (manner_of writing) c.args.fault))) (sym c.in-Json.is) c.text_fault.ensures.reply

pub returns-in-Pages-clause-reply : goal.returns-in-Pages-clause-reply
returns-in-Pages-clause-reply c =
    let result = c.form_page.result in
    subst (λ (writing : Writing). IfOk result (λ reply. IsReply reply (fault_response (manner_of writing) c.args.fault))) (sym c.in-Pages.is)
    (subst (λ (pairs : List Pair). IfOk result (λ reply. IsReply reply (fault_response (in_pages c.in-Pages.fresh (texts_of pairs)) c.args.fault))) c.deref.ensures.value c.form_page.ensures.reply)
