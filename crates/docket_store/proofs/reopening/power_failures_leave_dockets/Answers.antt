use Rattle.docket_store.proofs.ReopeningLemmas.{leaves_docket}
use Rattle.docket_store.proofs.reopening.power_failures_leave_dockets.Goals as goal

pub returns : goal.returns
returns g c it court h next files leaves may = leaves_docket it court h next files leaves may
