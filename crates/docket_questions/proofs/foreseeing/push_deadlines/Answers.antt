use Rattle.std.proofs.Common.{◌≡◌, ◌∙◌, ◌∷◌, ◌<◌, length, arith, string_bytes}
use Rattle.docket_questions.specs.Foreseeing.{deadline_told}
use Rattle.docket_questions.proofs.ListLemmas.{one_added, whole_added}
use Rattle.docket_questions.proofs.TellLemmas.{clean_before, passed_told, same_told, then_told}
use Rattle.docket_questions.proofs.ToldLemmas.{follows_in}
use Rattle.docket_questions.proofs.foreseeing.push_deadlines.Goals as goal

pub returns-in_err-push_deadline-clause-only : goal.returns-in_err-push_deadline-clause-only
returns-in_err-push_deadline-clause-only g c serves =
    then_told g.S.Store _ _ _ 0 c.from_residual.result (c.rows.invariant.only serves) (λ _. passed_told g.S.Store _ _ _ c.from_residual.result c.from_residual.ensures.1 c.in_err-push_deadline.ensures.only)

pub rows-preserved : goal.rows-preserved
rows-preserved g c =
    let old = c.args.docket.now in
    let before = c.rows.docket in
    let i = c.rows.row-index in
    let row = c.row-item.result in
    let inside : i < length c.args.rows.now = omega arith in
    let so_far = c.rows.invariant in
    let added = c.in_ok-push_deadline.ensures in
    record {
      only = λ serves. then_told g.S.Store _ _ _ 0 _ (so_far.only serves) (λ _. same_told g.S.Store _ _ _ 0 added.only);
      told = λ h entered stands follows.
          let only = so_far.only stands.serves in
          let found = so_far.told h entered stands follows in
          let next = added.answer h entered found.0
          (λ clean. follows_in h entered before.court old.court c.args.changes.now c.args.rows.now c.args.calendar.now only.court (follows (clean_before _ _ only.clean clean))) in (
            next.0,
            λ clean. one_added (λ court row. deadline_told court (entered ∷ h) row) before.court old.court c.args.rows.now i row inside c.row-item.is (string_bytes c.args.text.now) (string_bytes c.rows.text)
                (string_bytes c.push_deadline.new.text) only.court (found.1 (clean_before _ _ added.only.clean clean)) (next.1 clean),
          );
    }

pub returns-clause-answer : goal.returns-clause-answer
returns-clause-answer g c h entered stands follows =
    let all : c.rows.row-index ≡ length c.args.rows.now = omega (arith, c.rows.auto.row-index-end, c.rows-test.false) in
    let found = c.rows.invariant.told h entered stands follows in
    (found.0, λ clean. found.1 clean ∙ whole_added (deadline_told c.args.docket.now.court (entered ∷ h)) c.args.rows.now (string_bytes c.args.text.now) c.rows.row-index all)

pub returns-clause-only : goal.returns-clause-only
returns-clause-only g c serves = same_told g.S.Store _ _ 0 _ (c.rows.invariant.only serves)
