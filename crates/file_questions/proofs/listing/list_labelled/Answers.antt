use Rattle.std.proofs.Common.{◌≡◌, ◌∙◌, List, Option, Some, None, Ok, option_copied, sym, subst, arith}
use Rattle.sqlite.specs.Held.{state}
use Rattle.sqlite.specs.State.{HasCleanDisk}
use Rattle.docket_history.specs.Histories.{case_rows}
use Rattle.docket_history.specs.Records.{case_labelled}
use Rattle.docket_history.specs.declared.row.CaseRow.{CaseRow}
use Rattle.file_questions.specs.CaseLists.{GoesOut}
use Rattle.file_questions.proofs.CaseLemmas.{nothing_out, told_of_label}
use Rattle.file_questions.proofs.ListLemmas.{unlisted}
use Rattle.file_questions.proofs.listing.list_labelled.Goals as goal

pub returns-in-Ok-Some-clause-lists : goal.returns-in-Ok-Some-clause-lists
returns-in-Ok-Some-clause-lists g c h stands =
    let asks = c.in-Ok-Some.ensures.answer h stands in
    let lists = c.list_one.ensures.lists h asks.0 in (
      lists.0,
      λ clean.
          let before : HasCleanDisk (state g.S.Store c.case_labelled.new.self.conn) = omega (arith, clean, c.list_one.ensures.clean) in
          let told = told_of_label c.args.docket.now.court h stands.docket.history c.args.label.now (option_copied c.args.part) (Some c.in-Ok-Some.row) (sym c.in-Ok-Some.field-0-is ∙ asks.1 before) in
          subst (λ (rows : List CaseRow). GoesOut rows (g.W.Write.contents c.args.writer.now) (g.W.Write.contents c.list_one.new.writer) c.list_one.result) (sym told) (lists.1 clean),
    )

pub returns-in-Ok-Some-clause-stays : goal.returns-in-Ok-Some-clause-stays
returns-in-Ok-Some-clause-stays g c rows holds = c.list_one.ensures.stays rows (c.in-Ok-Some.ensures.only.stays rows holds)

pub returns-in-Ok-None-clause-lists : goal.returns-in-Ok-None-clause-lists
returns-in-Ok-None-clause-lists g c h stands =
    let asks = c.in-Ok-None.ensures.answer h stands in
    let known = g.W.Write.contents c.args.writer.now in (
      asks.0,
      λ clean.
          let told = told_of_label c.args.docket.now.court h stands.docket.history c.args.label.now (option_copied c.args.part) None (sym c.in-Ok-None.field-0-is ∙ asks.1 clean) in
          subst (λ (rows : List CaseRow). GoesOut rows known known (Ok 0)) (sym told) (nothing_out known),
    )

pub returns-in-Err-clause-lists : goal.returns-in-Err-clause-lists
returns-in-Err-clause-lists g c h stands =
    unlisted g.S.Store c.case_labelled.new.self h (λ (found : Option CaseRow). found ≡ case_labelled (case_rows h) c.args.label.now) _ (g.W.Write.contents c.args.writer.now) c.in-Err.fault
    (c.in-Err.ensures.answer h stands)
