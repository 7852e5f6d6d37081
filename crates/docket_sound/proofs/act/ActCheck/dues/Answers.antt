use Rattle.std.proofs.Common.{◌∙◌}
use Rattle.docket_sound.proofs.ActLemmas.{all_dues}
use Rattle.docket_sound.proofs.act.ActCheck.dues.Goals as goal

pub returns-clause-some : goal.returns-clause-some
returns-clause-some c rows has = c.into_dues.ensures ∙ c.in_ok-close.ensures.dues ∙ all_dues c.args.self rows has
