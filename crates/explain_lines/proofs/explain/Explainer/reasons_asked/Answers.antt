use Rattle.std.proofs.Common.{string_bytes}
use Rattle.count_lines.specs.Answers.{state_of}
use Rattle.explain_lines.proofs.Judging.{reasons_told}
use Rattle.explain_lines.proofs.explain.Explainer.reasons_asked.Goals as goal

pub returns-in_ok-text-in-Some : goal.returns-in_ok-text-in-Some
returns-in_ok-text-in-Some c =
    reasons_told (state_of c.args.self.now.counter) c.court-court.result.now c.calendar-calendar.result.now c.args.request.now c.in-Some.begun
    (string_bytes c.in_ok-text-in-Some.text) c.court-court.ensures c.calendar-calendar.ensures c.in-Some.ensures.value c.in_ok-text-in-Some.ensures
