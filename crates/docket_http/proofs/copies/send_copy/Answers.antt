use Rattle.docket_http.proofs.ClosedLemmas.{sends_reply}
use Rattle.docket_http.proofs.copies.send_copy.Goals as goal

pub returns : goal.returns
returns g c =
    let told = c.copy_reply-reply.ensures in
    record { response = told.0; is = told.2; sent = sends_reply c.send.result c.copy_reply-reply.result told.0 _ _ told.1 c.send.ensures.whole c.send.ensures.front }
