use Rattle.std.proofs.Common.{option_copied}
use Rattle.docket_text.proofs.LoopLemmas.{row-added}
use Rattle.reason_lines.specs.Lines.{step_line}
use Rattle.reason_lines.proofs.text.reasons_text.Goals as goal

pub loop-step-preserved : goal.loop-step-preserved
loop-step-preserved c =
    row-added (step_line c.args.court.now c.args.calendar.now (option_copied c.args.rule)) c.args.steps.now c.loop-step.step-index c.step-item.result _ _ _
    c.loop-step.invariant c.loop-step-test.true c.step-item.is c.in_ok-write.ensures.bytes
