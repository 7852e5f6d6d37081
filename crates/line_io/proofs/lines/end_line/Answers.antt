use Rattle.std.proofs.Common.{◌++◌, ◌+◌, ◌∙◌, ap, sym, take}
use Rattle.std.proofs.lemmas.Result.{IfErr-weaker, IfOk-weaker, err_from_is_err_and}
use Rattle.line_io.proofs.Cutting.{kept-line, said-same, left-same}
use Rattle.line_io.proofs.LastLine.{nothing-kept}
use Rattle.line_io.specs.Lines.{without_cr}
use Rattle.line_io.specs.Report.{within}
use Rattle.line_io.proofs.StepLemmas.{here, one_step}
use Rattle.line_io.specs.Ending.{Leaves}
use Rattle.line_io.proofs.lines.end_line.Goals as goal

pub returns-clause-ok : goal.returns-clause-ok
returns-clause-ok g c = λ s part shows trusts kept.
    said-same (g.A.Answerer.Shows c.answer_line-2.new.answerer) _ _ _ _ _
    (kept-line g.A.Answerer.LIMIT g.A.Answerer.answer_to g.A.Answerer.too_long s c.args.progress.now.kept.items part c.args.bytes.now c.keep.new.kept.items c.deref.result.now c.trimmed-2.result.now
    kept (c.in-Ok.ensures ∙ ap (λ n. take (n + 2) (c.args.progress.now.kept.items ++ c.args.bytes.now)) c.LIMIT.ensures) c.deref.ensures.value c.trimmed-2.ensures)
    (c.in_ok-bad.ensures.ok s shows trusts)

pub returns-in_err-bad-clause-fails : goal.returns-in_err-bad-clause-fails
returns-in_err-bad-clause-fails g c =
    let p = err_from_is_err_and c.from_residual.result c.from_residual.ensures.1 in
    rw (p.1, p.2) (λ s part shows trusts kept.
    left-same (Leaves (g.A.Answerer.Shows c.answer_line-2.new.answerer) (g.A.Answerer.Fails c.answer_line-2.new.answerer) _) s _ _
    (kept-line g.A.Answerer.LIMIT g.A.Answerer.answer_to g.A.Answerer.too_long s c.args.progress.now.kept.items part c.args.bytes.now c.keep.new.kept.items c.deref.result.now c.trimmed-2.result.now
    kept (c.in-Ok.ensures ∙ ap (λ n. take (n + 2) (c.args.progress.now.kept.items ++ c.args.bytes.now)) c.LIMIT.ensures) c.deref.ensures.value c.trimmed-2.ensures)
    (c.in_err-bad.ensures.fails s shows trusts))

pub returns-then-is_empty-clause-ok : goal.returns-then-is_empty-clause-ok
returns-then-is_empty-clause-ok g c =
    let J = within g.A.Answerer.LIMIT g.A.Answerer.answer_to g.A.Answerer.too_long in
    IfOk-weaker c.answer_line.result _ _
    (λ bad said s part shows trusts kept.
    said-same (g.A.Answerer.Shows c.answer_line.new.answerer) _ _ _ _ bad
    (ap (J s) (c.trimmed.ensures ∙ ap (λ p. without_cr (p ++ c.args.bytes.now)) (sym (nothing-kept g.A.Answerer.LIMIT _ _ part _ c.is_empty.ensures c.if-is_empty.true c.args.progress.now.kept.ok.0 kept))))
    (said s shows trusts))
    c.answer_line.ensures.ok

pub returns-then-is_empty-clause-fails : goal.returns-then-is_empty-clause-fails
returns-then-is_empty-clause-fails g c =
    let J = within g.A.Answerer.LIMIT g.A.Answerer.answer_to g.A.Answerer.too_long in
    IfErr-weaker c.answer_line.result _ _
    (λ fault left s part shows trusts kept.
    left-same (Leaves (g.A.Answerer.Shows c.answer_line.new.answerer) (g.A.Answerer.Fails c.answer_line.new.answerer) fault) s _ _
    (ap (J s) (c.trimmed.ensures ∙ ap (λ p. without_cr (p ++ c.args.bytes.now)) (sym (nothing-kept g.A.Answerer.LIMIT _ _ part _ c.is_empty.ensures c.if-is_empty.true c.args.progress.now.kept.ok.0 kept))))
    (left s shows trusts))
    c.answer_line.ensures.fails

pub returns-then-is_empty-clause-steps : goal.returns-then-is_empty-clause-steps
returns-then-is_empty-clause-steps g c = one_step g.A.Answerer.Steps _ _ c.answer_line.ensures.steps

pub returns-in_default-clause-steps : goal.returns-in_default-clause-steps
returns-in_default-clause-steps g c = here g.A.Answerer.Steps _

pub returns-in_err-bad-clause-steps : goal.returns-in_err-bad-clause-steps
returns-in_err-bad-clause-steps g c = one_step g.A.Answerer.Steps _ _ c.answer_line-2.ensures.steps

pub returns-clause-steps : goal.returns-clause-steps
returns-clause-steps g c = one_step g.A.Answerer.Steps _ _ c.answer_line-2.ensures.steps
