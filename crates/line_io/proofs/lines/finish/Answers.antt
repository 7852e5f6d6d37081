use Rattle.std.proofs.Common.{◌∙◌, ap}
use Rattle.std.proofs.lemmas.Result.{err_from_is_err_and}
use Rattle.line_io.proofs.Cutting.{cut-last, said-same}
use Rattle.line_io.proofs.LastLine.{nothing-kept, something-kept, ends-none, ends-line, left-last}
use Rattle.line_io.proofs.StepLemmas.{here, one_step}
use Rattle.line_io.specs.Ending.{Leaves}
use Rattle.line_io.specs.Report.{within}
use Rattle.line_io.proofs.lines.finish.Goals as goal

pub returns-then-is_empty-clause-ok : goal.returns-then-is_empty-clause-ok
returns-then-is_empty-clause-ok g c = λ s part shows trusts kept.
    ends-none (within g.A.Answerer.LIMIT g.A.Answerer.answer_to g.A.Answerer.too_long) _ s part _ _ _
    (nothing-kept g.A.Answerer.LIMIT _ _ part _ c.is_empty.ensures c.if-is_empty.true c.args.progress.now.kept.ok.0 kept) shows

pub returns-in_err-bad-clause-fails : goal.returns-in_err-bad-clause-fails
returns-in_err-bad-clause-fails g c =
    let p = err_from_is_err_and c.from_residual.result c.from_residual.ensures.1 in
    let J = within g.A.Answerer.LIMIT g.A.Answerer.answer_to g.A.Answerer.too_long in
    rw (p.1, p.2) (λ s part shows trusts kept.
    left-last J (Leaves (g.A.Answerer.Shows c.answer_line.new.answerer) (g.A.Answerer.Fails c.answer_line.new.answerer) _) s _ part
    (something-kept g.A.Answerer.LIMIT _ _ part _ c.is_empty.ensures c.if-is_empty.false c.args.progress.now.kept.ok.0 kept)
    (ap (J s) (c.deref.ensures.value ∙ kept) ∙ cut-last g.A.Answerer.LIMIT g.A.Answerer.answer_to g.A.Answerer.too_long s part)
    (c.in_err-bad.ensures.fails s shows trusts))

pub returns-clause-ok : goal.returns-clause-ok
returns-clause-ok g c = λ s part shows trusts kept.
    let J = within g.A.Answerer.LIMIT g.A.Answerer.answer_to g.A.Answerer.too_long in
    ends-line J _ s part _ _ _ _ _ _ _
    (something-kept g.A.Answerer.LIMIT _ _ part _ c.is_empty.ensures c.if-is_empty.false c.args.progress.now.kept.ok.0 kept)
    (said-same (g.A.Answerer.Shows c.answer_line.new.answerer) _ _ _ _ _ (ap (J s) (c.deref.ensures.value ∙ kept) ∙ cut-last g.A.Answerer.LIMIT g.A.Answerer.answer_to g.A.Answerer.too_long s part) (c.in_ok-bad.ensures.ok s shows trusts))
    c.counted-progress.ensures.lines c.counted-progress.ensures.bad

pub returns-then-is_empty-clause-steps : goal.returns-then-is_empty-clause-steps
returns-then-is_empty-clause-steps g c = here g.A.Answerer.Steps _

pub returns-in_err-bad-clause-steps : goal.returns-in_err-bad-clause-steps
returns-in_err-bad-clause-steps g c = one_step g.A.Answerer.Steps _ _ c.answer_line.ensures.steps

pub returns-clause-steps : goal.returns-clause-steps
returns-clause-steps g c = one_step g.A.Answerer.Steps _ _ c.answer_line.ensures.steps
