use Rattle.std.proofs.Common.{◌∙◌, ℕ, refl, string_bytes}
use Rattle.docket_questions.proofs.DueLemmas.{text_is}
use Rattle.docket_questions.proofs.TellLemmas.{none_told, passed_asks, passed_told, same_told, short_asks, short_told}
use Rattle.docket_questions.proofs.due_texts.text_between.Goals as goal

pub returns-in_err-text-clause-only : goal.returns-in_err-text-clause-only
returns-in_err-text-clause-only g c serves = short_told g.S.Store _ _ {X = ℕ} 0 c.from_residual.result c.from_residual.ensures.1 (none_told g.S.Store _ _ 0 refl serves)

pub returns-in_err-push_dues-clause-answer : goal.returns-in_err-push_dues-clause-answer
returns-in_err-push_dues-clause-answer g c h stands have =
    passed_asks g.S.Store c.push_dues.new.docket h _ _ c.from_residual-in_err-push_dues.result c.from_residual-in_err-push_dues.ensures.1 (c.in_err-push_dues.ensures.answer h stands have)

pub returns-in_err-push_dues-clause-only : goal.returns-in_err-push_dues-clause-only
returns-in_err-push_dues-clause-only g c serves =
    passed_told g.S.Store _ _ _ c.from_residual-in_err-push_dues.result c.from_residual-in_err-push_dues.ensures.1 (c.in_err-push_dues.ensures.only serves)

pub returns-in_err-foot-clause-answer : goal.returns-in_err-foot-clause-answer
returns-in_err-foot-clause-answer g c h stands have =
    short_asks g.S.Store c.push_dues.new.docket h _ c.from_residual-in_err-foot.result c.from_residual-in_err-foot.ensures.1 (c.in_ok-push_dues.ensures.answer h stands have).0

pub returns-in_err-foot-clause-only : goal.returns-in_err-foot-clause-only
returns-in_err-foot-clause-only g c serves =
    short_told g.S.Store _ _ _ c.from_residual-in_err-foot.result c.from_residual-in_err-foot.ensures.1 (c.in_ok-push_dues.ensures.only serves)

pub returns-in_err-push_str-clause-answer : goal.returns-in_err-push_str-clause-answer
returns-in_err-push_str-clause-answer g c h stands have =
    short_asks g.S.Store c.push_dues.new.docket h _ c.from_residual-in_err-push_str.result c.from_residual-in_err-push_str.ensures.1 (c.in_ok-push_dues.ensures.answer h stands have).0

pub returns-in_err-push_str-clause-only : goal.returns-in_err-push_str-clause-only
returns-in_err-push_str-clause-only g c serves =
    short_told g.S.Store _ _ _ c.from_residual-in_err-push_str.result c.from_residual-in_err-push_str.ensures.1 (c.in_ok-push_dues.ensures.only serves)

pub returns-clause-answer : goal.returns-clause-answer
returns-clause-answer g c h stands have =
    let told = c.in_ok-push_dues.ensures.answer h stands have in (
      told.0,
      λ clean. text_is c.args.form.now h c.court.result.now c.args.docket.now.court c.args.from c.args.to c.args.dues.now (string_bytes c.in_ok-text.text) (string_bytes c.push_dues.new.text)
          c.deref.result.now (string_bytes c.push_str.new.self) c.court.ensures c.in_ok-text.ensures (told.1 clean) (c.deref.ensures ∙ c.in_ok-foot.ensures) c.in_ok-push_str.ensures.bytes,
    )

pub returns-clause-only : goal.returns-clause-only
returns-clause-only g c serves = same_told g.S.Store _ _ _ _ (c.in_ok-push_dues.ensures.only serves)
