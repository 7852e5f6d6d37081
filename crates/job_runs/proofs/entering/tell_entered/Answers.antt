use Rattle.job_runs.proofs.EnterLemmas.{told_early, told_entered}
use Rattle.job_runs.proofs.entering.tell_entered.Goals as goal

pub returns-in-Ok : goal.returns-in-Ok
returns-in-Ok g c =
    told_entered c.args.entered.now _ _ c.in-Ok.end c.tell_end-ran.result c.entry_status-status.result c.say.result c.in-Ok.is c.tell_end-ran.ensures c.entry_status-status.ensures c.say.ensures

pub returns-in-Err : goal.returns-in-Err
returns-in-Err g c = told_early c.args.entered.now _ _ c.in-Err.fault c.tell_end.result c.in-Err.is c.tell_end.ensures
