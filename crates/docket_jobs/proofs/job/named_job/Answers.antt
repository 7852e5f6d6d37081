use Rattle.std.proofs.Common.{◌≡◌, IfOk, MatchResult, None, Option, Some, subst}
use Rattle.clap.specs.Matches.{found_of}
use Rattle.clap.specs.Walk.{rows_of}
use Rattle.std.specs.Option.{option_map_or}
use Rattle.docket_jobs.specs.Jobs.{Asked, asked, asked_for, to_count}
use Rattle.docket_jobs.specs.declared.verb.Verb.{Verb}
use Rattle.docket_jobs.proofs.job.named_job.Goals as goal

pub returns-in-Some-clause-job : goal.returns-in-Some-clause-job
returns-in-Some-clause-job c =
    let found : Option Verb → Option Asked = λ verb. option_map_or (λ verb. asked_for verb (rows_of (found_of c.args.found.now))) verb (Some to_count) in
    let P : Option Verb → Type 0 = λ verb. IfOk c.job_by.result (λ read. MatchResult read (λ job. found verb ≡ Some (asked job)) (λ _. found verb ≡ None)) in
    subst P c.in-Some.ensures c.job_by.ensures.job
