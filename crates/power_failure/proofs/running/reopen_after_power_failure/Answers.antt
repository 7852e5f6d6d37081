use Rattle.std.proofs.Common.{take, arith}
use Rattle.std.proofs.Math.Logic.{∥∥₁_map}
use Rattle.docket_decisions.specs.Outcomes.{run}
use Rattle.power_failure.proofs.running.reopen_after_power_failure.Goals as goal

pub returns-in-Ok-adopt-clause-headline : goal.returns-in-Ok-adopt-clause-headline
returns-in-Ok-adopt-clause-headline g c court h is lawful held clean =
    let opened = c.in-Ok.ensures.clean (omega (arith, c.in-Ok-adopt.ensures.clean, clean)) in
    let left = c.in_ok-replies.ensures.prefix court h is lawful held opened in (
      left.0,
      left.1,
      ∥∥₁_map left.2 (λ one. (
        one.0,
        one.1,
        one.2,
        c.in-Ok-adopt.ensures.adopted court (run court h (take one.0 c.args.commands.now)) one.2 (c.in-Ok.ensures.docket court _ one.3) clean,
      )),
    )

pub returns-in-Err-adopt-clause-headline : goal.returns-in-Err-adopt-clause-headline
returns-in-Err-adopt-clause-headline g c court h is lawful held clean =
    let opened = c.in-Ok.ensures.clean (omega (arith, c.in-Err-adopt.ensures.clean, clean)) in
    let left = c.in_ok-replies.ensures.prefix court h is lawful held opened in (
      left.0,
      left.1,
      ∥∥₁_map left.2 (λ one. (
        one.0,
        one.1,
        one.2,
        c.in-Err-adopt.ensures.adopted court (run court h (take one.0 c.args.commands.now)) one.2 (c.in-Ok.ensures.docket court _ one.3),
      )),
    )

pub returns-in-Err-clause-headline : goal.returns-in-Err-clause-headline
returns-in-Err-clause-headline g c court h is lawful held =
    (c.in_ok-replies.field-0.files, c.in_ok-replies.ensures.prefix court h is lawful held, λ clean. (c.in-Err.ensures.cause clean, c.in-Err.ensures.unharmed clean))
