use Rattle.std.proofs.Common.{sym, subst}
use Rattle.std.proofs.KnownBytes.{Appends-nil}
use Rattle.http_request.specs.Request.{body_of}
use Rattle.http_request.specs.declared.wish.Wish.{Wish}
use Rattle.docket_http.specs.Recorded.{OnlySends}
use Rattle.docket_http.specs.Serve.{Delivers}
use Rattle.docket_http.proofs.OnlyLemmas.{sent_only}
use Rattle.docket_http.proofs.ServeLemmas.{delivered}
use Rattle.docket_http.proofs.serve.serve_request.Goals as goal

pub returns-in-None : goal.returns-in-None
returns-in-None g c =
    let before = g.W.Write.contents c.args.writer.now in
    let after = g.W.Write.contents c.send.new.writer in
    let wish = c.args.request.now.wish in
    let body = body_of c.args.request.now in
    let now = c.reply_of-reply.new.docket in
    let reply = c.reply_of-reply.result in
    let replied = c.reply_of-reply.ensures in
    let sent = c.send.ensures in
    record {
      delivers = λ h stands clean. delivered g.S.Store now h wish body reply before before after c.send.result (replied.answered h stands clean) (Appends-nil before) sent.whole sent.front;
      only = sent_only g.S.Store c.args.docket.now now wish body reply before after c.send.result replied.only sent.whole sent.front;
    }

pub returns-in-Some : goal.returns-in-Some
returns-in-Some g c =
    let before = g.W.Write.contents c.args.writer.now in
    let after = g.W.Write.contents c.serve_calendar.new.writer in
    let body = body_of c.args.request.now in
    let now = c.serve_calendar.new.docket in
    let result = c.serve_calendar.result in
    let done = c.serve_calendar.ensures in
    let asked = sym c.in-Some.ensures in
    record {
      delivers = λ h stands clean. subst (λ (wish : Wish). Delivers g.S.Store now h wish body before after result) asked (done.delivers h body stands clean);
      only = subst (λ (wish : Wish). OnlySends g.S.Store c.args.docket.now now wish body before after result) asked (done.only body);
    }
