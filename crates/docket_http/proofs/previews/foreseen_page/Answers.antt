use Rattle.std.proofs.Common.{◌∙◌, sym, subst, IfOk, List, ℕ}
use Rattle.command_forms.specs.Forms.{texts_of}
use Rattle.docket_decisions.specs.Outcomes.{Answer}
use Rattle.docket_questions.specs.Foreseeing.{IsForeseen}
use Rattle.entry_pages.specs.Pages.{form_again}
use Rattle.entry_pages.specs.Saying as saying
use Rattle.docket_http.specs.Answer.{page}
use Rattle.docket_http.specs.Previews.{outcome_previewed}
use Rattle.docket_http.specs.Reply.{IsReply}
use Rattle.docket_http.proofs.previews.foreseen_page.Goals as goal

pub returns-in-Refused-clause-reply : goal.returns-in-Refused-clause-reply
returns-in-Refused-clause-reply c = λ court h told.
    let command = c.args.command.now in
    subst (λ (a : Answer). IfOk c.form_page.result (λ reply. IsReply reply (outcome_previewed court h c.args.fresh (texts_of c.args.pairs.now) command a)))
    (sym (subst (IsForeseen court h command) c.in-Refused.is told)) c.form_page.ensures.reply

pub returns-in-Known-clause-reply : goal.returns-in-Known-clause-reply
returns-in-Known-clause-reply c = λ court h told.
    let command = c.args.command.now in
    let result = c.form_page-in-Known.result in
    subst (λ (a : Answer). IfOk result (λ reply. IsReply reply (outcome_previewed court h c.args.fresh (texts_of c.args.pairs.now) command a)))
    (sym (subst (IsForeseen court h command) c.in-Known.is told))
    (subst (λ (words : List ℕ). IfOk result (λ reply. IsReply reply (page 200 (form_again c.args.fresh (texts_of c.args.pairs.now) (saying.foreseen words))))) c.known_words.ensures c.form_page-in-Known.ensures.reply)

pub returns-in-Accepted-clause-reply : goal.returns-in-Accepted-clause-reply
returns-in-Accepted-clause-reply c = λ court h told.
    let command = c.args.command.now in
    let result = c.form_page-in-Accepted.result in
    let seen = subst (IsForeseen court h command) c.in-Accepted.is told in
    subst (λ (a : Answer). IfOk result (λ reply. IsReply reply (outcome_previewed court h c.args.fresh (texts_of c.args.pairs.now) command a))) (sym seen.1)
    (subst (λ (words : List ℕ). IfOk result (λ reply. IsReply reply (page 200 (form_again c.args.fresh (texts_of c.args.pairs.now) (saying.foreseen words))))) (c.as_str.ensures.value ∙ seen.2) c.form_page-in-Accepted.ensures.reply)
