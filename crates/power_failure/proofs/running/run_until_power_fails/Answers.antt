use Rattle.std.proofs.Common.{inl}
use Rattle.sqlite.specs.Files.{image_of, over_files}
use Rattle.docket_store.specs.Reopening.{IsNotOpened, IsNotRecovered}
use Rattle.docket_store.specs.declared.recovering.RecoverFault.TheVariants.{NotOpened, NotAdopted}
use Rattle.docket_store.proofs.ReopeningLemmas.{err_told, match_told}
use Rattle.power_failure.specs.Headline.{LeavesPrefix}
use Rattle.power_failure.proofs.HeadlineLemmas.{leaves_prefix, stops_at}
use Rattle.power_failure.proofs.running.run_until_power_fails.Goals as goal

pub returns-in_err-conn-clause-opened : goal.returns-in_err-conn-clause-opened
returns-in_err-conn-clause-opened g c =
    let e = c.in_err-conn.field-0.0 in
    err_told (IsNotOpened c.args.files) c.from_residual.result (NotOpened e.0 e.1) c.from_residual.ensures.1
    (λ clean. (c.in_err-conn.ensures.cause clean, c.in_err-conn.ensures.unharmed clean))

pub returns-in_err-replies-clause-prefix : goal.returns-in_err-replies-clause-prefix
returns-in_err-replies-clause-prefix g c court h is lawful held =
    match_told (LeavesPrefix g.D.Disk court h c.args.commands.now) (IsNotRecovered court h h) c.from_residual-in_err-replies.result
    (NotAdopted c.in_err-replies.field-0.0) c.from_residual-in_err-replies.ensures.1
    ∣ inl (c.in_err-replies.ensures.ends court h is (c.in_ok-conn.ensures.docket court h held)) ∣₁

pub returns-clause-prefix : goal.returns-clause-prefix
returns-clause-prefix g c court h is lawful held clean =
    let end = c.in_ok-replies.field-0 in
    let ends = c.in_ok-replies.ensures.ends court h is (c.in_ok-conn.ensures.docket court h held) (c.fail_power.ensures.clean clean) in (
      ends.0,
      stops_at over_files end.connection court h c.args.commands.now _ end.stopped_at ends.1,
      leaves_prefix over_files end.connection (image_of g.D.Disk c.fail_power.result) court h c.args.commands.now is lawful
          (λ now stands. c.fail_power.ensures.settled court now stands clean) (λ now next lasts. c.fail_power.ensures.either court now next lasts clean) _
          end.stopped_at ends.1,
    )

pub returns-clause-every : goal.returns-clause-every
returns-clause-every g c court h is lawful held =
    let end = c.in_ok-replies.field-0 in
    let stopped = c.fail_power.ensures.every in (
      stopped.0,
      stopped.1.files_left,
      λ clean image may.
          let ends = c.in_ok-replies.ensures.ends court h is (c.in_ok-conn.ensures.docket court h held) (c.fail_power.ensures.clean clean) in
          leaves_prefix over_files end.connection image court h c.args.commands.now is lawful (λ now stands. stopped.1.settled clean court now stands image may)
          (λ now next lasts. stopped.1.either clean court now next lasts image may) _ end.stopped_at ends.1,
    )
