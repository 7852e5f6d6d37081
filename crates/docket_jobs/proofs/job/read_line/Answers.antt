use Rattle.std.proofs.Common.{◌∙◌, sym}
use Rattle.std.proofs.lemmas.Result.{err_from_is_err_and}
use Rattle.docket_jobs.proofs.ReadingLemmas.{line_taken, line_refused, value_refused}
use Rattle.docket_jobs.proofs.job.read_line.Goals as goal

pub returns-in_err-matches-clause-fault : goal.returns-in_err-matches-clause-fault
returns-in_err-matches-clause-fault c =
    let p = err_from_is_err_and c.from_residual.result c.from_residual.ensures.1 in
    rw (p.1, p.2) (line_refused _ c.in_err-matches.field-0.0 c.in_err-matches.ensures.fault)

pub returns-in-Ok-Ok-clause-job : goal.returns-in-Ok-Ok-clause-job
returns-in-Ok-Ok-clause-job c = sym c.in_ok-matches.ensures.found ∙ (rw c.in-Ok-Ok.field-0-is at c.in-Ok-Ok.ensures.job)

pub returns-in-Ok-Ok-clause-fault : goal.returns-in-Ok-Ok-clause-fault
returns-in-Ok-Ok-clause-fault c = line_taken _ _ c.in_ok-matches.ensures.fault (sym c.in_ok-matches.ensures.found ∙ (rw c.in-Ok-Ok.field-0-is at c.in-Ok-Ok.ensures.job))

pub returns-in-Ok-Err-clause-fault : goal.returns-in-Ok-Err-clause-fault
returns-in-Ok-Err-clause-fault c =
    value_refused _ c.in_ok-told-in-Ok-Err.field-0 c.in_ok-matches.ensures.fault (sym c.in_ok-matches.ensures.found ∙ (rw c.in-Ok-Err.field-0-is at c.in-Ok-Err.ensures.job))
    c.in_ok-told-in-Ok-Err.ensures
