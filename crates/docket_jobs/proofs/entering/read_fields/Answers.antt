use Rattle.std.proofs.Common.{◌∙◌, ap}
use Rattle.std.proofs.lemmas.Result.{err_from_is_err_and}
use Rattle.docket_jobs.specs.Jobs.{entry_asked}
use Rattle.docket_jobs.proofs.entering.read_fields.Goals as goal

pub returns-in_err-matches-clause-fault : goal.returns-in_err-matches-clause-fault
returns-in_err-matches-clause-fault c =
    let p = err_from_is_err_and c.from_residual.result c.from_residual.ensures.1 in
    rw (p.1, p.2) c.in_err-matches.ensures.fault

pub returns-clause-job : goal.returns-clause-job
returns-clause-job c = c.in_ok-entry_job.ensures.job ∙ ap (λ rows. entry_asked c.args.kind rows) c.in_ok-matches.ensures.found

pub returns-clause-fault : goal.returns-clause-fault
returns-clause-fault c = c.in_ok-matches.ensures.fault
