use Rattle.court_reasons.proofs.Acts.{explained_alone}
use Rattle.court_reasons.proofs.laws.steps_explain_alone.Goals as goal

pub returns : goal.returns
returns c = λ zone entered acts steps limits is_zone are. explained_alone entered limits zone is_zone acts steps are
