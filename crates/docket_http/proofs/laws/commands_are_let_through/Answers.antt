use Rattle.docket_http.proofs.GuardLemmas.{let_through}
use Rattle.docket_http.proofs.laws.commands_are_let_through.Goals as goal

pub returns : goal.returns
returns c = let_through
