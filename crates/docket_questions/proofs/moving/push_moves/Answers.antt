use Rattle.std.proofs.Common.{◌≡◌, ◌∙◌, ◌<◌, append-nil, length, refl, sym, arith, string_bytes}
use Rattle.docket_questions.specs.Moves.{move_of}
use Rattle.docket_questions.proofs.ListLemmas.{one_added, whole_added}
use Rattle.docket_questions.proofs.TellLemmas.{clean_before, none_told, passed_asks, passed_told, same_told, then_told}
use Rattle.docket_questions.proofs.moving.push_moves.Goals as goal

pub rows-init : goal.rows-init
rows-init g c = record {
  only = λ serves. none_told g.S.Store _ _ 0 refl serves;
  told = λ h stands. (stands, λ clean. sym (append-nil (string_bytes c.args.text.now)));
}

pub returns-in_err-push_move : goal.returns-in_err-push_move
returns-in_err-push_move g c =
    let now = c.push_move.new.docket in
    let fault = c.in_err-push_move.field-0.0 in
    let result = c.from_residual.result in
    let told = c.from_residual.ensures.1 in
    let so_far = c.rows.invariant in
    let failed = c.in_err-push_move.ensures in
    record {
      answer = λ h stands. passed_asks g.S.Store now h _ fault result told (failed.answer h (so_far.told h stands).0);
      only = λ serves. then_told g.S.Store _ _ _ 0 result (so_far.only serves) (λ _. passed_told g.S.Store _ _ fault result told failed.only);
    }

pub rows-preserved : goal.rows-preserved
rows-preserved g c =
    let old = c.args.docket.now in
    let before = c.rows.docket in
    let i = c.rows.row-index in
    let row = c.row-item.result in
    let inside : i < length c.args.rows.now = omega arith in
    let so_far = c.rows.invariant in
    let next = c.in_ok-push_move.ensures in
    record {
      only = λ serves. then_told g.S.Store _ _ _ 0 _ (so_far.only serves) (λ _. same_told g.S.Store _ _ _ 0 next.only);
      told = λ h stands.
          let found = so_far.told h stands in
          let told = next.answer h found.0 in (
            told.0,
            λ clean. one_added (λ court row. move_of court h c.args.other.now row) before.court old.court c.args.rows.now i row inside c.row-item.is (string_bytes c.args.text.now) (string_bytes c.rows.text)
                (string_bytes c.push_move.new.text) (so_far.only stands.serves).court (found.1 (clean_before _ _ next.only.clean clean)) (told.1 clean),
          );
    }

pub returns : goal.returns
returns g c =
    let so_far = c.rows.invariant in
    let all : c.rows.row-index ≡ length c.args.rows.now = omega (arith, c.rows.auto.row-index-end, c.rows-test.false) in
    record {
      answer = λ h stands.
          let found = so_far.told h stands in
          (found.0, λ clean. found.1 clean ∙ whole_added (move_of c.args.docket.now.court h c.args.other.now) c.args.rows.now (string_bytes c.args.text.now) c.rows.row-index all);
      only = λ serves. same_told g.S.Store _ _ 0 _ (so_far.only serves);
    }
