use Rattle.std.proofs.Common.{◌≡◌, IfOk, MatchResult, None, Some, Option, ap, subst, sym}
use Rattle.docket_jobs.specs.Jobs.{Asked, asked, asked_in}
use Rattle.docket_jobs.proofs.MatchLemmas.{rows_met}
use Rattle.docket_jobs.proofs.job.job_in.Goals as goal

pub returns-in-Some-clause-job : goal.returns-in-Some-clause-job
returns-in-Some-clause-job c =
    let met = rows_met c.args.matches.now _ _ (rw c.in-Some.is at c.subcommand.ensures.name) (rw c.in-Some.is at c.subcommand.ensures.rows) in
    let P : Option Asked → Type 0 = λ found. IfOk c.named_job.result (λ read. MatchResult read (λ job. found ≡ Some (asked job)) (λ _. found ≡ None)) in
    subst P (sym (ap asked_in met)) c.named_job.ensures.job
