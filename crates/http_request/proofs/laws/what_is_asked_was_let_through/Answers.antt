use Rattle.std.proofs.Common.{refl}
use Rattle.http_request.proofs.GuardLemmas.{let_through_by}
use Rattle.http_request.proofs.laws.what_is_asked_was_let_through.Goals as goal

pub returns : goal.returns
returns c = λ routes fresh input wish body is asked. let_through_by routes fresh _ input wish body refl is asked
