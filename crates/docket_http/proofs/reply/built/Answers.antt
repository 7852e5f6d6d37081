use Rattle.std.proofs.Common.{◌∙◌, ◌++◌, ap, refl, string_bytes}
use Rattle.docket_http.specs.Answer.{head_bytes}
use Rattle.docket_http.proofs.reply.built.Goals as goal

pub returns : goal.returns
returns c =
    let sized = c.len-len.ensures ∙ c.args.body.bytes.ok.0 in
    record { reply = (ap (λ head. head ++ string_bytes c.args.body) (c.in_ok-head.ensures.ok ∙ ap (λ len. head_bytes c.args.status c.args.form len) sized), refl); short = tt }
