use Rattle.docket_decisions.proofs.LimitsKept.{within_limits, sound_view}
use Rattle.docket_decisions.proofs.laws.limits_are_kept.Goals as goal

pub returns-clause-histories : goal.returns-clause-histories
returns-clause-histories c court h is = within_limits court h is

pub returns-clause-views : goal.returns-clause-views
returns-clause-views c court h command is = sound_view court h is command
