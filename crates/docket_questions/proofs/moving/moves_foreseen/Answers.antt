use Rattle.std.proofs.Common.{◌∷◌, string_bytes, refl}
use Rattle.docket_decisions.specs.Tables.{all_changed, rows_of}
use Rattle.docket_questions.proofs.MoveLemmas.{moves_told, tables_with}
use Rattle.docket_questions.proofs.AskedLemmas.{untold_if_clean, untold_only}
use Rattle.docket_questions.proofs.ToldLemmas.{calendar_sound}
use Rattle.docket_questions.proofs.TellLemmas.{clean_before, passed_told, same_told, then_told}
use Rattle.docket_questions.proofs.moving.moves_foreseen.Goals as goal

pub returns-in_err-rows-clause-only : goal.returns-in_err-rows-clause-only
returns-in_err-rows-clause-only g c = passed_told g.S.Store _ _ c.in_err-rows.field-0.0 c.from_residual.result c.from_residual.ensures.1 c.in_err-rows.ensures.only

pub returns-in_err-other-clause-answer : goal.returns-in_err-other-clause-answer
returns-in_err-other-clause-answer g c h command stands changes =
    let old = c.args.docket.now.court in
    let rows = c.in_ok-rows.rows.items in
    let asked = c.in_ok-rows.ensures.answer h stands in
    let before = clean_before _ _ c.in_ok-rows.ensures.only.clean in
    untold_if_clean g.S.Store _ h _ _ _ c.in_err-other.field-0.0 c.from_residual-in_err-other.result c.from_residual-in_err-other.ensures.1
    (c.in_err-other.ensures.err (tables_with old rows) refl) asked.0
    (λ clean. (
      c.in_err-other.ensures.err (rows_of old h) (asked.1 clean),
      calendar_sound old (command ∷ h) _ (changes (before clean)).history (changes (before clean)).leads,
    ))

pub returns-in_err-other-clause-only : goal.returns-in_err-other-clause-only
returns-in_err-other-clause-only g c =
    untold_only g.S.Store _ _ _ _ c.in_err-other.field-0.0 c.from_residual-in_err-other.result c.from_residual-in_err-other.ensures.1
    (c.in_err-other.ensures.err (tables_with c.args.docket.now.court c.in_ok-rows.rows.items) refl) c.in_ok-rows.ensures.only

pub returns-in_err-dues-clause-only : goal.returns-in_err-dues-clause-only
returns-in_err-dues-clause-only g c =
    then_told g.S.Store _ _ _ _ c.from_residual-in_err-dues.result c.in_ok-rows.ensures.only
    (λ serves. passed_told g.S.Store _ _ c.in_err-dues.field-0.0 c.from_residual-in_err-dues.result c.from_residual-in_err-dues.ensures.1 c.in_err-dues.ensures.only)

pub returns-in_err-push_moves-clause-only : goal.returns-in_err-push_moves-clause-only
returns-in_err-push_moves-clause-only g c =
    let result = c.from_residual-in_err-push_moves.result in
    then_told g.S.Store _ _ _ _ result c.in_ok-rows.ensures.only
    (λ _. then_told g.S.Store _ _ _ _ result c.in_ok-dues.ensures.only
    (λ serves. passed_told g.S.Store _ _ c.in_err-push_moves.field-0.0 result c.from_residual-in_err-push_moves.ensures.1 (c.in_err-push_moves.ensures.only serves)))

pub returns-clause-answer : goal.returns-clause-answer
returns-clause-answer g c h command stands changes =
    let old = c.args.docket.now.court in
    let asked = c.in_ok-rows.ensures.answer h stands in
    let listed = c.in_ok-dues.ensures.answer h asked.0 in
    let told = c.in_ok-push_moves.ensures.answer h listed.0 in
    let second = clean_before _ _ (c.in_ok-push_moves.ensures.only listed.0.serves).clean in
    let first = clean_before _ _ c.in_ok-dues.ensures.only.clean in
    let start = clean_before _ _ c.in_ok-rows.ensures.only.clean in (
      told.0,
      λ clean. moves_told h command (all_changed c.args.changes.items (rows_of old h)) old c.calendar_rows.new.self.court c.due_rows.new.self.court c.in_ok-other.other
          c.first_day.result c.last_day.result c.in_ok-dues.dues.items c.as_slice.result.now (string_bytes c.new-text.result) (string_bytes c.push_moves.new.text)
          c.in_ok-rows.ensures.only.court c.in_ok-dues.ensures.only.court
          (c.in_ok-other.ensures.ok (rows_of old h) (asked.1 (first (second clean)))) (changes (start (first (second clean)))).leads c.first_day.ensures c.last_day.ensures (listed.1 (second clean)) c.as_slice.ensures.value
          c.new-text.ensures.bytes (told.1 clean),
    )

pub returns-clause-only : goal.returns-clause-only
returns-clause-only g c =
    then_told g.S.Store _ _ _ _ _ c.in_ok-rows.ensures.only
    (λ _. then_told g.S.Store _ _ _ _ _ c.in_ok-dues.ensures.only (λ serves. same_told g.S.Store _ _ _ _ (c.in_ok-push_moves.ensures.only serves)))
