use Rattle.std.proofs.Common.{◌∙◌, Some, ap, subst, sym, string_bytes}
use Rattle.sqlite.specs.Held.{state}
use Rattle.sqlite.specs.State.{HasCleanDisk}
use Rattle.court_days.specs.Court.{CourtSettings}
use Rattle.docket_questions.specs.Dues.{days_of}
use Rattle.docket_questions.specs.Kept.{HaveCases}
use Rattle.docket_questions.proofs.CasedLemmas.{cased}
use Rattle.docket_questions.proofs.DueLemmas.{of_days}
use Rattle.docket_questions.proofs.TellLemmas.{clean_before, passed_asks, passed_told, same_told, then_told}
use Rattle.docket_questions.proofs.dues.DuesQuestion.ask.Goals as goal

pub returns-in_err-dues : goal.returns-in_err-dues
returns-in_err-dues g c =
    let fault = c.in_err-dues.field-0.0 in
    let result = c.from_residual.result in
    let told = c.from_residual.ensures.1 in
    let failed = c.in_err-dues.ensures in
    record {
      answer = λ h stands. passed_asks g.S.Store c.due_rows.new.self h _ fault result told (failed.answer h stands);
      only = passed_told g.S.Store _ _ fault result told failed.only;
    }

pub returns-in_err-text : goal.returns-in_err-text
returns-in_err-text g c =
    let fault = c.in_err-text.field-0.0 in
    let result = c.from_residual-in_err-text.result in
    let told = c.from_residual-in_err-text.ensures.1 in
    let first = c.in_ok-dues.ensures in
    let failed = c.in_err-text.ensures in
    let days = c.days_of-from.result in
    let old = c.args.docket.now.court in
    record {
      answer = λ h stands.
          let asked = first.answer h stands in
          let have : HasCleanDisk (state g.S.Store c.due_rows.new.self.conn) → HaveCases h c.as_slice.result.now =
          λ clean. subst (HaveCases h) (sym (c.as_slice.ensures.value ∙ asked.1 clean)) (cased old h stands.docket.history days.0 days.1) in
          passed_asks g.S.Store c.text_between.new.docket h _ fault result told (failed.answer h asked.0 have);
      only = then_told g.S.Store _ _ _ _ result first.only (λ serves. passed_told g.S.Store _ _ fault result told (failed.only serves));
    }

pub returns : goal.returns
returns g c =
    let first = c.in_ok-dues.ensures in
    let second = c.in_ok-text.ensures in
    let days = c.days_of-from.result in
    let old = c.args.docket.now.court in
    let asked_for = c.args.self.now in
    record {
      answer = λ h stands.
          let asked = first.answer h stands in
          let have : HasCleanDisk (state g.S.Store c.due_rows.new.self.conn) → HaveCases h c.as_slice.result.now =
          λ clean. subst (HaveCases h) (sym (c.as_slice.ensures.value ∙ asked.1 clean)) (cased old h stands.docket.history days.0 days.1) in
          let told = second.answer h asked.0 have in (
            told.0,
            λ clean. ap Some (of_days asked_for.form h c.due_rows.new.self.court old days (days_of old asked_for.days) c.as_slice.result.now c.in_ok-dues.dues.items (string_bytes c.in_ok-text.text)
                first.only.court (c.days_of-from.ensures ∙ ap (λ (court : CourtSettings). days_of court asked_for.days) c.court.ensures) c.as_slice.ensures.value
                (asked.1 (clean_before _ _ (second.only asked.0.serves).clean clean)) (told.1 clean)),
          );
      only = then_told g.S.Store _ _ _ _ _ first.only (λ serves. same_told g.S.Store _ _ _ _ (second.only serves));
    }
