use Rattle.command_forms.specs.Forms.{texts_of}
use Rattle.docket_questions.proofs.TellLemmas.{asks_more, clean_before, passed_told, then_told}
use Rattle.entry_lines.proofs.AnswerLemmas.{line_of_named, named_ok}
use Rattle.entry_lines.proofs.preparing.prepared.Goals as goal

pub returns-in_err-named-clause-only : goal.returns-in_err-named-clause-only
returns-in_err-named-clause-only g c = passed_told g.S.Store _ _ _ c.from_residual.result c.from_residual.ensures.1 c.in_err-named.ensures.only

pub returns-in-Ok-clause-answer : goal.returns-in-Ok-clause-answer
returns-in-Ok-clause-answer g c h stands =
    let named = c.in_ok-named.ensures in
    let told = named.answer h stands in
    let made = c.line_prepared.ensures in
    asks_more g.S.Store c.line_prepared.new.docket h _ _ c.line_prepared.result
    (λ clean done line.
    let seen = clean_before _ _ (made.only told.0.serves).clean clean in
    line_of_named c.args.docket.now.court c.fields_named.new.docket.court h c.args.entry.now (texts_of c.in-Ok.fields.items) done named.only.court
    (named_ok c.in_ok-named.named c.in-Ok.fields (λ pairs. texts_of pairs.items) _ (told.1 seen) c.in-Ok.is) line)
    (made.answer h told.0)

pub returns-in-Ok-clause-only : goal.returns-in-Ok-clause-only
returns-in-Ok-clause-only g c = then_told g.S.Store _ _ _ _ c.line_prepared.result c.in_ok-named.ensures.only c.line_prepared.ensures.only
