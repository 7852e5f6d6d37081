use Rattle.std.proofs.Common.{◌≡◌, ◌∙◌, take, arith}
use Rattle.std.proofs.Math.Logic.{∥∥₁_map}
use Rattle.docket_decisions.specs.Outcomes.{run}
use Rattle.power_failure.proofs.HeadlineLemmas.{told_by_court}
use Rattle.power_failure.proofs.telling.tell_after_power_failure.Goals as goal

pub returns-in-Ok-clause-headline : goal.returns-in-Ok-clause-headline
returns-in-Ok-clause-headline g c court h is lawful held clean =
    let found = c.in_ok-found.ensures.headline court h is lawful held (omega (arith, c.tell.ensures.clean, clean)) in (
      found.0,
      found.1,
      ∥∥₁_map found.2 (λ one.
          let now = run court h (take one.0 c.args.commands.now) in
          let answer = c.in-Ok.ensures.told now one.3.0 in
          let same : c.tell.new.docket.court ≡ court = c.tell.ensures.court ∙ one.3.1 in (
            one.0,
            one.1,
            one.2,
            (answer.0, same, told_by_court now c.args.asked c.in-Ok.told same (answer.1 clean)),
          )),
    )

pub returns-in-Err-clause-headline : goal.returns-in-Err-clause-headline
returns-in-Err-clause-headline g c court h is lawful held clean =
    let found = c.in_ok-found.ensures.headline court h is lawful held (omega (arith, c.tell.ensures.clean, clean)) in (
      found.0,
      found.1,
      ∥∥₁_map found.2 (λ one.
          let now = run court h (take one.0 c.args.commands.now) in
          let same : c.tell.new.docket.court ≡ court = c.tell.ensures.court ∙ one.3.1 in
          (one.0, one.1, one.2, (c.in-Err.ensures.untold now one.3.0, same))),
    )
