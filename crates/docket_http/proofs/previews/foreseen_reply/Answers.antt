use Rattle.docket_questions.proofs.TellLemmas.{passed_asks, passed_told}
use Rattle.docket_http.proofs.AskingLemmas.{built_told, written_asks}
use Rattle.docket_http.proofs.previews.foreseen_reply.Goals as goal

pub returns-in_err-foreseen : goal.returns-in_err-foreseen
returns-in_err-foreseen g c =
    let now = c.foreseen.new.docket in
    let fault = c.in_err-foreseen.field-0.0 in
    let result = c.from_residual.result in
    let told = c.from_residual.ensures.1 in
    let failed = c.in_err-foreseen.ensures in
    record {
      answer = λ h stands. passed_asks g.S.Store now h _ fault result told (failed.answer h stands);
      only = passed_told g.S.Store c.args.docket.now now fault result told failed.only;
    }

pub returns : goal.returns
returns g c =
    let old = c.args.docket.now in
    let now = c.foreseen.new.docket in
    let result = c.foreseen_page.result in
    let written = c.foreseen_page.ensures in
    let asked = c.in_ok-foreseen.ensures in
    record {
      answer = λ h stands. let told = asked.answer h stands in written_asks g.S.Store now h _ result told.0 (λ clean. written.reply old.court h (told.1 clean)) written.short;
      only = built_told g.S.Store old now _ result written.short asked.only;
    }
