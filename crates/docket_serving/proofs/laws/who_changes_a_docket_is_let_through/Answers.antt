use Rattle.docket_serving.proofs.GuardLemmas.{let_through_to}
use Rattle.docket_serving.proofs.laws.who_changes_a_docket_is_let_through.Goals as goal

pub returns : goal.returns
returns c = λ routes court h next e is changes. let_through_to routes e.number court h next e.input is changes
