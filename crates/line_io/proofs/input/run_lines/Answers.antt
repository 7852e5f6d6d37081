use Rattle.line_io.specs.Report.{within}
use Rattle.line_io.proofs.Sending.{front-sent}
use Rattle.line_io.proofs.Whole.{input-whole, input-unsent, unsent-front, input-breaks, input-front}
use Rattle.line_io.proofs.input.run_lines.Goals as goal

pub returns-in-Ok-send-clause-whole : goal.returns-in-Ok-send-clause-whole
returns-in-Ok-send-clause-whole g c = λ s shows trusts.
    input-whole (within g.A.Answerer.LIMIT g.A.Answerer.answer_to g.A.Answerer.too_long) _ s _ _ _ _ (g.R.Read.remaining c.args.reader.now) _ _
    (c.in-Ok.ensures.whole s shows trusts) c.in-Ok-send.ensures.whole

pub returns-in-Ok-clause-front : goal.returns-in-Ok-clause-front
returns-in-Ok-clause-front g c = λ s shows trusts.
    unsent-front (within g.A.Answerer.LIMIT g.A.Answerer.answer_to g.A.Answerer.too_long) _ s _ _ _ _ (g.R.Read.remaining c.args.reader.now) _ _
    (c.in-Ok.ensures.whole s shows trusts) c.in-Err-send.ensures.front

pub returns-in-Ok-clause-left : goal.returns-in-Ok-clause-left
returns-in-Ok-clause-left g c = λ s shows trusts.
    input-unsent (within g.A.Answerer.LIMIT g.A.Answerer.answer_to g.A.Answerer.too_long) _ s _ _ _ _ _ _ (g.R.Read.remaining c.args.reader.now) _ _ (λ t q shown. shown)
    (c.in-Ok.ensures.whole s shows trusts) c.in-Err-send.ensures.front

pub returns-clause-front : goal.returns-clause-front
returns-clause-front g c = λ s shows trusts.
    input-front (within g.A.Answerer.LIMIT g.A.Answerer.answer_to g.A.Answerer.too_long) _ _ s _ _ _ _ (g.R.Read.remaining c.args.reader.now)
    (c.in-Err.ensures.stops s shows trusts) (front-sent c.send-in-Err.result _ _ _ c.send-in-Err.ensures.whole c.send-in-Err.ensures.front)

pub returns-clause-left : goal.returns-clause-left
returns-clause-left g c = λ s shows trusts.
    input-breaks (within g.A.Answerer.LIMIT g.A.Answerer.answer_to g.A.Answerer.too_long) _ _ s _ _ _ _ (g.R.Read.remaining c.args.reader.now)
    (c.in-Err.ensures.stops s shows trusts) (front-sent c.send-in-Err.result _ _ _ c.send-in-Err.ensures.whole c.send-in-Err.ensures.front)
