use Rattle.std.proofs.Common.{◌∙◌}
use Rattle.docket_questions.proofs.AskedLemmas.{untold_asks, untold_only}
use Rattle.docket_questions.proofs.TellLemmas.{passed_told, same_told, then_told}
use Rattle.docket_questions.proofs.ToldLemmas.{calendar_sound}
use Rattle.docket_questions.proofs.foreseeing.deadlines_told.Goals as goal

pub returns-in_err-found-clause-only : goal.returns-in_err-found-clause-only
returns-in_err-found-clause-only g c = passed_told g.S.Store _ _ _ c.from_residual.result c.from_residual.ensures.1 c.in_err-found.ensures.only

pub returns-in_err-calendar-clause-answer : goal.returns-in_err-calendar-clause-answer
returns-in_err-calendar-clause-answer g c h entered stands follows =
    let asked = c.in_ok-found.ensures.answer h stands in
    untold_asks g.S.Store c.calendar_rows.new.self h _ _ c.in_err-calendar.field-0.0 c.from_residual-in_err-calendar.result c.from_residual-in_err-calendar.ensures.1 c.in_err-calendar.ensures.err asked.0
    (λ clean. calendar_sound c.calendar_rows.new.self.court h c.as_slice.result.now asked.0.docket.history (c.as_slice.ensures.value ∙ asked.1 clean))

pub returns-in_err-calendar-clause-only : goal.returns-in_err-calendar-clause-only
returns-in_err-calendar-clause-only g c =
    untold_only g.S.Store _ _ _ _ c.in_err-calendar.field-0.0 c.from_residual-in_err-calendar.result c.from_residual-in_err-calendar.ensures.1 c.in_err-calendar.ensures.err c.in_ok-found.ensures.only

pub returns-in_err-push_deadlines-clause-only : goal.returns-in_err-push_deadlines-clause-only
returns-in_err-push_deadlines-clause-only g c =
    then_told g.S.Store _ _ _ _ _ c.in_ok-found.ensures.only
    (λ serves. passed_told g.S.Store _ _ _ c.from_residual-in_err-push_deadlines.result c.from_residual-in_err-push_deadlines.ensures.1 (c.in_err-push_deadlines.ensures.only serves))

pub returns-clause-only : goal.returns-clause-only
returns-clause-only g c =
    then_told g.S.Store _ _ _ _ _ c.in_ok-found.ensures.only
    (λ serves. same_told g.S.Store _ _ _ _ (c.in_ok-push_deadlines.ensures.only serves))
