use Rattle.docket_history.proofs.ShortDays.{standing-apart, standing-short}
use Rattle.docket_decisions.proofs.laws.short_days_move_no_deadline.Goals as goal

pub returns-clause-alone : goal.returns-clause-alone
returns-clause-alone c zone items acts = standing-apart zone items acts

pub returns-clause-entered : goal.returns-clause-entered
returns-clause-entered c zone items day close acts = standing-short zone items day close acts
