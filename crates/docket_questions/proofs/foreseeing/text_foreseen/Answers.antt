use Rattle.std.proofs.Common.{◌≡◌, ◌∙◌, ◌∷◌, ◌≤◌, length, sym, ap, arith, string_bytes}
use Rattle.std.proofs.lemmas.Bool.Decides.{nat_tests}
use Rattle.std.specs.List.{flat_map}
use Rattle.docket_decisions.proofs.AddedActs.{acts_added}
use Rattle.docket_history.specs.declared.subject.Subject.{Subject}
use Rattle.docket_applying.specs.Writing.{IfClean}
use Rattle.docket_questions.specs.Foreseeing.{deadline_told, foreseen_text}
use Rattle.docket_questions.specs.Prospects.{Follows}
use Rattle.docket_questions.proofs.AskedLemmas.{asks_as}
use Rattle.docket_questions.proofs.TellLemmas.{clean_before}
use Rattle.docket_questions.proofs.ToldLemmas.{follows_by, no_acts, some_acts, text_is}
use Rattle.docket_questions.proofs.foreseeing.text_foreseen.Goals as goal

pub returns-then-is_empty-clause-answer : goal.returns-then-is_empty-clause-answer
returns-then-is_empty-clause-answer g c h stands judged = (
  stands,
  λ clean.
      let court = c.args.docket.now.court in
      let command = c.args.command.now in
      let all = c.as_slice.result.now in
      let rows = c.in_ok-rows.rows.items in
      let calm = sym (ap (λ (s : Subject). s.changes_calendar) c.of-subject.ensures) ∙ c.if-subject.false in
      let follows = follows_by court h command c.args.changes all rows stands.docket.history (judged clean) calm c.as_slice.ensures.value c.in_ok-rows.ensures in
      let none : length rows ≡ 0 = grind (arith, nat_tests, c.is_empty.ensures, c.if-is_empty.true) in
      c.in_ok-text.ensures.ok ∙ no_acts court (command ∷ h) rows none ∙ sym (text_is court h command all rows follows calm),
)

pub returns-clause-answer : goal.returns-clause-answer
returns-clause-answer g c h stands judged =
    let court = c.args.docket.now.court in
    let command = c.args.command.now in
    let all = c.as_slice-2.result.now in
    let rows = c.as_slice-3.result.now in
    let calm = sym (ap (λ (s : Subject). s.changes_calendar) c.of-subject.ensures) ∙ c.if-subject.false in
    let same = c.as_slice-3.ensures.value ∙ c.in_ok-rows.ensures ∙ ap acts_added (c.as_slice.ensures.value ∙ sym c.as_slice-2.ensures.value) in
    let some : 1 ≤ length c.in_ok-rows.rows.items = grind (arith, nat_tests, c.is_empty.ensures, c.if-is_empty.false) in
    let many : 1 ≤ length rows = omega (arith, some, ap length c.as_slice-3.ensures.value) in
    let follows : IfClean g.S.Store c.args.docket.now.conn (Follows court h command all rows) =
    λ clean. follows_by court h command c.args.changes all rows stands.docket.history (judged clean) calm c.as_slice-2.ensures.value same in
    asks_as g.S.Store c.deadlines_told.new.docket h (λ text. string_bytes text ≡ flat_map (deadline_told court (command ∷ h)) rows) (λ text. string_bytes text ≡ foreseen_text court h command) c.deadlines_told.result
    (λ clean text is. is ∙ some_acts court (command ∷ h) rows many ∙ sym (text_is court h command all rows (follows (clean_before _ _ c.deadlines_told.ensures.only.clean clean)) calm))
    (c.deadlines_told.ensures.answer h command stands follows)
