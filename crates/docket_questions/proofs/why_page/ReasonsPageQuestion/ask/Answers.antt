use Rattle.std.proofs.Common.{◌∙◌, List, ℕ, Option, ap, subst, sym}
use Rattle.std.specs.Prelude.{IfSome, string_bytes}
use Rattle.court_days.specs.Court.{CourtSettings, zone_of}
use Rattle.court_rules.specs.Standings.{AreActs}
use Rattle.docket_applying.specs.Grounds.{AreGrounds}
use Rattle.docket_applying.specs.declared.explaining.Grounds.{Grounds}
use Rattle.html_sheets.specs.Sites.{reasons_page}
use Rattle.docket_questions.specs.Filings.{filed}
use Rattle.docket_questions.proofs.ReasonLemmas.{paged_reasons}
use Rattle.docket_questions.proofs.TellLemmas.{passed_told, short_told}
use Rattle.docket_questions.proofs.why_page.ReasonsPageQuestion.ask.Goals as goal

pub returns-clause-answer : goal.returns-clause-answer
returns-clause-answer g c h stands =
    let asked = c.in_ok-grounds.ensures.answer h stands in
    let case = c.args.self.now.case in
    let number = c.args.self.now.deadline in
    let day = c.args.self.now.day in
    let grounds = c.in-Some.grounds in
    let now = c.court-court.result.now in (
      asked.0,
      λ clean. paged_reasons c.args.docket.now.court now h case number day grounds (string_bytes c.in_ok-text.text) (string_bytes c.in_ok-page.page) c.filed-filed.result
          (c.court-court.ensures ∙ c.grounds.ensures.only.court) c.in_ok-text.ensures (c.filed-filed.ensures ∙ ap (filed now grounds.calendar) c.as_slice.ensures)
          (c.in_ok-page.ensures ∙ ap (λ (text : List ℕ). reasons_page case number text c.filed-filed.result day) c.deref.ensures)
          (subst (AreGrounds h case number) c.in-Some.is (asked.1 clean)),
    )

pub filed-filed-requires : goal.filed-filed-requires
filed-filed-requires g c =
    let acts = subst (λ (found : Option Grounds). IfSome found (λ grounds. AreActs (zone_of c.args.docket.now.court) grounds.deadline.acts)) c.in-Some.is c.in_ok-grounds.ensures.acts in
    subst (λ (court : CourtSettings). AreActs (zone_of court) c.as_slice.result.now) (sym (c.court-court.ensures ∙ c.grounds.ensures.only.court))
    (subst (AreActs (zone_of c.args.docket.now.court)) (sym c.as_slice.ensures) acts)

pub returns-in_err-grounds-clause-only : goal.returns-in_err-grounds-clause-only
returns-in_err-grounds-clause-only g c = passed_told g.S.Store _ _ _ c.from_residual.result c.from_residual.ensures.1 c.in_err-grounds.ensures.only

pub returns-in_err-text-clause-only : goal.returns-in_err-text-clause-only
returns-in_err-text-clause-only g c = short_told g.S.Store _ _ _ c.from_residual-in_err-text.result c.from_residual-in_err-text.ensures.1 c.in_ok-grounds.ensures.only

pub returns-in_err-page-clause-only : goal.returns-in_err-page-clause-only
returns-in_err-page-clause-only g c = short_told g.S.Store _ _ _ c.from_residual-in_err-page.result c.from_residual-in_err-page.ensures.1 c.in_ok-grounds.ensures.only
