use Rattle.std.proofs.Common.{subst, IfOk, ℕ, List}
use Rattle.docket_http.specs.Reply.{IsReply}
use Rattle.docket_http.specs.declared.head.Form.TheVariants.{Json}
use Rattle.docket_http.proofs.reply.json_reply.Goals as goal

pub returns : goal.returns
unfolding lib.Utf8.encode
returns c = record {
  reply = subst (λ (body : List ℕ). IfOk c.built.result (λ reply. IsReply reply (record { status = c.args.status; form = Json; body = body }))) c.in_ok-push.ensures.bytes c.built.ensures.reply;
  short = c.built.ensures.short;
}
