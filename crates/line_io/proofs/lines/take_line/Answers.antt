use Rattle.std.proofs.Common.{◌+◌, ◌∙◌, [], ap, if◌then◌else◌}
use Rattle.std.proofs.lemmas.Result.{err_from_is_err_and}
use Rattle.line_io.specs.Lines.{lines_from}
use Rattle.line_io.specs.Report.{within}
use Rattle.line_io.proofs.Sending.{sends-later, sends-now}
use Rattle.line_io.proofs.Stopping.{stops-line, stops-answer, stops-same}
use Rattle.line_io.proofs.Taking.{lines-feed, takes-line}
use Rattle.line_io.proofs.lines.take_line.Goals as goal

pub returns-in_err-bad-clause-stops : goal.returns-in_err-bad-clause-stops
returns-in_err-bad-clause-stops g c =
    let p = err_from_is_err_and c.from_residual.result c.from_residual.ensures.1 in
    let J = within g.A.Answerer.LIMIT g.A.Answerer.answer_to g.A.Answerer.too_long in
    rw (p.1, p.2) (λ s part shows trusts kept rest.
    stops-same J _ _ s _ _ _ _ _ _ (lines-feed part c.args.bytes.now rest c.requires.free)
    (stops-line J _ _ s _ (lines_from [] rest) _ _ _ (c.in_err-bad.ensures.fails s part shows trusts kept) c.in_err-bad.ensures.err c.requires.pending))

pub returns-then-len-MAX_PENDING-clause-takes : goal.returns-then-len-MAX_PENDING-clause-takes
returns-then-len-MAX_PENDING-clause-takes g c = λ s part shows trusts kept.
    let J = within g.A.Answerer.LIMIT g.A.Answerer.answer_to g.A.Answerer.too_long in
    let said = c.in_ok-bad.ensures.ok s part shows trusts kept in
    takes-line J _ _ s part c.args.bytes.now _ _ _ _ _ _ _ _ _ c.in_ok-bad.bad c.requires.free said.2 c.in_ok-bad.ensures.kept (sends-later _ _ _ _ said.0)
    (c.counted-progress.ensures.lines ∙ ap (λ e. e.lines + 1) c.in_ok-bad.ensures.counts) said.1
    (c.counted-progress.ensures.bad ∙ ap (λ e. e.bad + (if c.in_ok-bad.bad then 1 else 0)) c.in_ok-bad.ensures.counts)

pub returns-in-Ok-clause-takes : goal.returns-in-Ok-clause-takes
returns-in-Ok-clause-takes g c = λ s part shows trusts kept.
    let J = within g.A.Answerer.LIMIT g.A.Answerer.answer_to g.A.Answerer.too_long in
    let said = c.in_ok-bad.ensures.ok s part shows trusts kept in
    takes-line J _ _ s part c.args.bytes.now _ _ _ _ _ _ _ _ _ c.in_ok-bad.bad c.requires.free said.2 c.in_ok-bad.ensures.kept
    (sends-now _ _ _ _ _ _ said.0 c.in-Ok.ensures.whole c.in-Ok.ensures.sent)
    (c.counted-progress.ensures.lines ∙ ap (λ e. e.lines + 1) c.in_ok-bad.ensures.counts) said.1
    (c.counted-progress.ensures.bad ∙ ap (λ e. e.bad + (if c.in_ok-bad.bad then 1 else 0)) c.in_ok-bad.ensures.counts)

pub returns-in-Err-clause-stops : goal.returns-in-Err-clause-stops
returns-in-Err-clause-stops g c = λ s part shows trusts kept rest.
    let J = within g.A.Answerer.LIMIT g.A.Answerer.answer_to g.A.Answerer.too_long in
    let said = c.in_ok-bad.ensures.ok s part shows trusts kept in
    stops-same J _ _ s _ _ _ _ _ _ (lines-feed part c.args.bytes.now rest c.requires.free)
    (stops-answer J _ _ s _ (lines_from [] rest) _ _ _ _ _ said.2 said.0 c.in-Err.ensures.front c.in-Err.ensures.sent c.requires.pending)
