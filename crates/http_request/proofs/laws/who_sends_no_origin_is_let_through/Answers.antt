use Rattle.http_request.proofs.GuardLemmas.{own_request}
use Rattle.http_request.proofs.laws.who_sends_no_origin_is_let_through.Goals as goal

pub returns : goal.returns
returns c = own_request
