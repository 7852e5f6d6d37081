use Rattle.std.proofs.Common.{◌∙◌, ◌++◌, List, ℕ, ap, string_bytes}
use Rattle.docket_questions.specs.Prospects.{deadline_after, deadline_found, IsSoundIfAny}
use Rattle.docket_questions.proofs.AskedLemmas.{untold_asks, untold_only}
use Rattle.docket_questions.proofs.TellLemmas.{clean_before, passed_told, short_told}
use Rattle.docket_questions.proofs.ToldLemmas.{after_sound, told_is}
use Rattle.docket_questions.proofs.foreseeing.push_deadline.Goals as goal

pub returns-in_err-found-clause-only : goal.returns-in_err-found-clause-only
returns-in_err-found-clause-only g c = passed_told g.S.Store _ _ _ c.from_residual.result c.from_residual.ensures.1 c.in_err-found.ensures.only

pub returns-in_err-told-clause-answer : goal.returns-in_err-told-clause-answer
returns-in_err-told-clause-answer g c h entered stands follows =
    let asked = c.in_ok-found.ensures in
    let found = asked.answer h stands in
    untold_asks g.S.Store c.grounds.new.self h _ (IsSoundIfAny c.court.result.now (deadline_after (deadline_found c.in_ok-found.found) c.args.changes.now c.args.rows.now c.args.row.now)) c.in_err-told.field-0.0 c.from_residual-in_err-told.result c.from_residual-in_err-told.ensures.1 c.in_err-told.ensures.err found.0
    (λ clean. after_sound c.args.docket.now.court h entered c.args.changes.now c.args.rows.now (follows (clean_before _ _ asked.only.clean clean)).0 c.args.row.now c.in_ok-found.found (found.1 clean)
    c.court.result.now (c.court.ensures ∙ c.in_ok-found.ensures.only.court))

pub returns-in_err-told-clause-only : goal.returns-in_err-told-clause-only
returns-in_err-told-clause-only g c =
    untold_only g.S.Store _ _ (IsSoundIfAny c.court.result.now (deadline_after (deadline_found c.in_ok-found.found) c.args.changes.now c.args.rows.now c.args.row.now)) _ c.in_err-told.field-0.0 c.from_residual-in_err-told.result c.from_residual-in_err-told.ensures.1 c.in_err-told.ensures.err c.in_ok-found.ensures.only

pub returns-in_err-push_str-clause-only : goal.returns-in_err-push_str-clause-only
returns-in_err-push_str-clause-only g c = short_told g.S.Store _ _ _ c.from_residual-in_err-push_str.result c.from_residual-in_err-push_str.ensures.1 c.in_ok-found.ensures.only

pub returns-clause-answer : goal.returns-clause-answer
returns-clause-answer g c h entered stands follows =
    let asked = c.in_ok-found.ensures in
    let found = asked.answer h stands in (
      found.0,
      λ clean.
          let is = follows (clean_before _ _ asked.only.clean clean) in
          told_is c.args.docket.now.court h entered c.args.changes.now c.args.rows.now is.0 c.args.row.now c.in_ok-found.found (found.1 clean)
          c.court.result.now (c.court.ensures ∙ c.in_ok-found.ensures.only.court) c.args.calendar.now (string_bytes c.args.text.now) (string_bytes c.in_ok-told.told) (string_bytes c.push_str.new.self) is.1
          (c.in_ok-push_str.ensures.bytes ∙ ap (λ (line : List ℕ). string_bytes c.args.text.now ++ line) c.deref.ensures) c.in_ok-told.ensures.ok,
    )
