use Rattle.std.proofs.Common.{◌∙◌, inl, inr, arith}
use Rattle.std.proofs.Math.Logic.{∥∥₁_map}
use Rattle.sqlite.specs.Files.{over_files}
use Rattle.sqlite.specs.Held.{state}
use Rattle.sqlite.specs.State.{HasCleanDisk}
use Rattle.docket_decisions.specs.Outcomes.{after}
use Rattle.docket_store.specs.Reopening.{AppliesOnce, IsNotRecovered}
use Rattle.docket_store.proofs.AgainLemmas.{once_given}
use Rattle.docket_store.proofs.ReopeningLemmas.{match_told}
use Rattle.docket_store.proofs.recovering.apply_again.Goals as goal

pub returns-clause-once : goal.returns-clause-once
returns-clause-once g c it court h was is leaves may clean =
    let command = c.args.command.now in
    let either = c.in_ok-docket.ensures.either it court h (after court h command) was is leaves may (omega (arith, c.apply_in_files-answer.ensures.clean)) in
    once_given over_files c.apply_in_files-answer.new.docket court h command c.apply_in_files-answer.result (∥∥₁_map either (λ one. (
      elim one.0 [
        | inl before ↦ inl (c.apply_in_files-answer.ensures.answer h before)
        | inr later ↦ inr (c.apply_in_files-answer.ensures.answer (after court h command) later)
      ],
      c.apply_in_files-answer.ensures.court ∙ one.1,
    )))

pub returns-in_err-docket-clause-once : goal.returns-in_err-docket-clause-once
returns-in_err-docket-clause-once g c it court h was is leaves may =
    let later = after court h c.args.command.now in
    match_told (λ r. HasCleanDisk (state over_files r.0.conn) → AppliesOnce over_files r.0 court h c.args.command.now r.1) (IsNotRecovered court h later) c.from_residual.result
    c.in_err-docket.field-0.0 c.from_residual.ensures.1 (c.in_err-docket.ensures.either it court h later was is leaves may)
