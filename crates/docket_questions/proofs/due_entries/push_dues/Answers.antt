use Rattle.std.proofs.Common.{◌≡◌, ◌∙◌, ◌<◌, length, refl, arith, string_bytes}
use Rattle.sqlite.specs.Held.{state}
use Rattle.sqlite.specs.State.{HasCleanDisk}
use Rattle.docket_history.specs.Histories.{case_rows}
use Rattle.docket_questions.specs.Kept.{IsCase}
use Rattle.docket_questions.proofs.CasedLemmas.{case_at_place}
use Rattle.docket_questions.proofs.DueLemmas.{all_dues, due_added, no_dues}
use Rattle.docket_questions.proofs.TellLemmas.{clean_before, none_told, passed_asks, passed_told, same_told, then_told}
use Rattle.docket_questions.proofs.due_entries.push_dues.Goals as goal

pub dues-init : goal.dues-init
dues-init g c = record {
  within = omega arith;
  only = λ serves. none_told g.S.Store _ _ 0 refl serves;
  told = λ h stands have. (stands, λ clean. (tt, no_dues c.args.form.now c.args.docket.now.court h (string_bytes c.args.text.now)));
}

pub returns-in_err-push_due : goal.returns-in_err-push_due
returns-in_err-push_due g c =
    let now = c.push_due.new.docket in
    let dues = c.args.dues.now in
    let n = c.dues.place in
    let due = c.index-dues-place.result in
    let inside : n < length dues = omega (arith, c.dues-test.true) in
    let fault = c.in_err-push_due.field-0.0 in
    let result = c.from_residual.result in
    let told = c.from_residual.ensures.1 in
    let so_far = c.dues.invariant in
    let failed = c.in_err-push_due.ensures in
    record {
      answer = λ h stands have.
          let has : HasCleanDisk (state g.S.Store c.dues.docket.conn) → IsCase (case_rows h) due.case =
          λ clean. case_at_place h dues n due inside c.index-dues-place.is (have (clean_before _ _ (so_far.only stands.serves).clean clean)) in
          passed_asks g.S.Store now h _ fault result told (failed.answer h (so_far.told h stands have).0 has);
      only = λ serves. then_told g.S.Store _ _ _ 0 result (so_far.only serves) (λ still. passed_told g.S.Store _ _ fault result told (failed.only still));
    }

pub dues-preserved : goal.dues-preserved
dues-preserved g c =
    let old = c.args.docket.now in
    let before = c.dues.docket in
    let dues = c.args.dues.now in
    let n = c.dues.place in
    let due = c.index-dues-place.result in
    let inside : n < length dues = omega (arith, c.dues-test.true) in
    let so_far = c.dues.invariant in
    let added = c.in_ok-push_due.ensures in
    record {
      within = omega (arith, c.dues-test.true);
      only = λ serves. then_told g.S.Store _ _ _ 0 _ (so_far.only serves) (λ still. same_told g.S.Store _ _ _ 0 (added.only still));
      told = λ h stands have.
          let found = so_far.told h stands have in
          let has : HasCleanDisk (state g.S.Store before.conn) → IsCase (case_rows h) due.case =
          λ clean. case_at_place h dues n due inside c.index-dues-place.is (have (clean_before _ _ (so_far.only stands.serves).clean clean)) in
          let next = added.answer h found.0 has in (
            next.0,
            λ clean.
                let seen = found.1 (clean_before _ _ (added.only found.0.serves).clean clean) in
                let now = next.1 clean seen.0 in (
                  now.0,
                  due_added c.args.form.now h before.court old.court dues n due inside c.index-dues-place.is (string_bytes c.args.text.now) (string_bytes c.dues.text) (string_bytes c.push_due.new.text)
                      (so_far.only stands.serves).court seen.1 now.1,
                ),
          );
    }

pub returns : goal.returns
returns g c =
    let so_far = c.dues.invariant in
    let all : c.dues.place ≡ length c.args.dues.now = omega (arith, so_far.within, c.dues-test.false) in
    record {
      answer = λ h stands have.
          let found = so_far.told h stands have in
          (found.0, λ clean. (found.1 clean).1 ∙ all_dues c.args.form.now c.args.docket.now.court h c.args.dues.now c.dues.place (string_bytes c.args.text.now) all);
      only = λ serves. same_told g.S.Store _ _ 0 _ (so_far.only serves);
    }
