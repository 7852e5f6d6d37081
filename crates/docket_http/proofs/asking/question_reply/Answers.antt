use Rattle.std.proofs.Common.{◌∙◌, ℕ, List, Option, ap, subst, sym}
use Rattle.std.specs.Prelude.{string_bytes}
use Rattle.std.specs.Option.{option_map}
use Rattle.docket_questions.proofs.TellLemmas.{passed_asks, passed_told}
use Rattle.docket_http.specs.Answer.{fine, found, missing}
use Rattle.docket_http.specs.Reply.{IsReply}
use Rattle.docket_http.proofs.AskingLemmas.{built_asks, built_told}
use Rattle.docket_http.proofs.asking.question_reply.Goals as goal

pub returns-in_err-text : goal.returns-in_err-text
returns-in_err-text g c =
    let now = c.ask.new.docket in
    let fault = c.in_err-text.field-0.0 in
    let result = c.from_residual.result in
    let told = c.from_residual.ensures.1 in
    let failed = c.in_err-text.ensures in
    record {
      answer = λ h stands. passed_asks g.S.Store now h _ fault result told (failed.answer h stands);
      only = passed_told g.S.Store c.args.docket.now now fault result told failed.only;
    }

pub returns-in-Some : goal.returns-in-Some
returns-in-Some g c =
    let now = c.ask.new.docket in
    let result = c.built.result in
    let built = c.built.ensures in
    let asked = c.in_ok-text.ensures in
    record {
      answer = λ h stands.
          let told = asked.answer h stands in
          built_asks g.S.Store now h _ (fine c.args.form (string_bytes c.in-Some.text)) result built.reply built.short told.0
          (λ clean reply is. subst (λ (text : Option (List ℕ)). IsReply reply (found c.args.form text)) (ap (option_map string_bytes) (sym c.in-Some.is) ∙ told.1 clean) is);
      only = built_told g.S.Store c.args.docket.now now _ result built.short asked.only;
    }

pub returns-in-None : goal.returns-in-None
returns-in-None g c =
    let now = c.ask.new.docket in
    let result = c.missing_reply.result in
    let written = c.missing_reply.ensures in
    let asked = c.in_ok-text.ensures in
    record {
      answer = λ h stands.
          let told = asked.answer h stands in
          built_asks g.S.Store now h _ (missing c.args.form) result written.reply written.short told.0
          (λ clean reply is. subst (λ (text : Option (List ℕ)). IsReply reply (found c.args.form text)) (ap (option_map string_bytes) (sym c.in-None.is) ∙ told.1 clean) is);
      only = built_told g.S.Store c.args.docket.now now _ result written.short asked.only;
    }
