use Rattle.std.proofs.Common.{◌≡◌, ◌∙◌, ◌+◌, List, Option, Some, None, Ok, Err, [], ◌∷◌, drop, take, option_copied, sym, ap, subst, arith}
use Rattle.sqlite.specs.Held.{state}
use Rattle.sqlite.specs.State.{HasCleanDisk}
use Rattle.docket_history.specs.Histories.{case_rows}
use Rattle.docket_history.specs.Records.{case_at}
use Rattle.docket_history.specs.declared.row.CaseRow.{CaseRow}
use Rattle.docket_applying.specs.declared.listing.CalendarEnd.TheVariants.{Store}
use Rattle.file_questions.specs.CaseLists.{GoesOut}
use Rattle.file_questions.proofs.CaseLemmas.{front_out, less_out, more_out, no_case, one_more, one_of, parted, told_of_all, with_party}
use Rattle.file_questions.proofs.ListLemmas.{unanswered}
use Rattle.file_questions.proofs.listing.list_all.Goals as goal

pub returns-in-Ok-None-clause-lists : goal.returns-in-Ok-None-clause-lists
returns-in-Ok-None-clause-lists g c h stands =
    let so_far = c.cases.invariant.told h stands in
    let asks = c.in-Ok-None.ensures.answer h so_far.0 in (
      asks.0,
      λ clean.
          let before : HasCleanDisk (state g.S.Store c.cases.docket.conn) = omega (arith, clean, c.case_row.ensures.only.clean) in
          let none : case_at (case_rows h) (c.cases.before + 1) ≡ None = sym (sym c.in-Ok-None.field-0-is ∙ asks.1 clean) in
          let told = ap (with_party h (option_copied c.args.part)) (no_case (case_rows h) c.cases.before none) in
          subst (λ (rows : List CaseRow). GoesOut rows (g.W.Write.contents c.args.writer.now) (g.W.Write.contents c.cases.writer) (Ok c.cases.lines)) told (so_far.1 before),
    )

pub returns-in-Ok-None-clause-stays : goal.returns-in-Ok-None-clause-stays
returns-in-Ok-None-clause-stays g c rows holds = c.in-Ok-None.ensures.only.stays rows (c.cases.invariant.stays rows holds)

pub returns-in-Err-clause-lists : goal.returns-in-Err-clause-lists
returns-in-Err-clause-lists g c h stands =
    let so_far = c.cases.invariant.told h stands in
    let part = option_copied c.args.part in
    let n = c.cases.before in
    let asks = c.in-Err.ensures.answer h so_far.0 in (
      unanswered g.S.Store c.case_row.new.self h (λ (found : Option CaseRow). found ≡ case_at (case_rows h) (n + 1)) c.in-Err.fault asks,
      λ clean.
          let before : HasCleanDisk (state g.S.Store c.cases.docket.conn) = omega (arith, clean, c.case_row.ensures.only.clean) in
          let front = front_out (g.W.Write.contents c.args.writer.now) (g.W.Write.contents c.cases.writer) (with_party h part (take n (case_rows h))) c.cases.lines (so_far.1 before)
          (with_party h part (drop n (case_rows h))) (Store c.in-Err.fault) in
          subst (λ (rows : List CaseRow). GoesOut rows (g.W.Write.contents c.args.writer.now) (g.W.Write.contents c.cases.writer) (Err (Store c.in-Err.fault))) (sym (parted h part (case_rows h) n)) front,
    )

pub returns-in-Err-clause-stays : goal.returns-in-Err-clause-stays
returns-in-Err-clause-stays g c rows holds = c.in-Err.ensures.only.stays rows (c.cases.invariant.stays rows holds)

pub returns-in-Err-list_one-clause-lists : goal.returns-in-Err-list_one-clause-lists
returns-in-Err-list_one-clause-lists g c h stands =
    let so_far = c.cases.invariant.told h stands in
    let part = option_copied c.args.part in
    let n = c.cases.before in
    let row = c.in-Ok-Some.row in
    let asks = c.in-Ok-Some.ensures.answer h so_far.0 in
    let lists = c.in-Err-list_one.ensures.lists h asks.0 in (
      lists.0,
      λ clean.
          let asked : HasCleanDisk (state g.S.Store c.case_row.new.self.conn) = omega (arith, clean, c.list_one.ensures.clean) in
          let before : HasCleanDisk (state g.S.Store c.cases.docket.conn) = omega (arith, asked, c.case_row.ensures.only.clean) in
          let is : case_at (case_rows h) (n + 1) ≡ Some row = sym (sym c.in-Ok-Some.field-0-is ∙ asks.1 asked) in
          let front = less_out (g.W.Write.contents c.args.writer.now) (g.W.Write.contents c.cases.writer) (with_party h part (take n (case_rows h))) c.cases.lines (so_far.1 before)
          (g.W.Write.contents c.list_one.new.writer) (with_party h part (row ∷ [])) (with_party h part (drop (n + 1) (case_rows h))) c.in-Err-list_one.end (lists.1 clean) in
          subst (λ (rows : List CaseRow). GoesOut rows (g.W.Write.contents c.args.writer.now) (g.W.Write.contents c.list_one.new.writer) (Err c.in-Err-list_one.end)) (sym (one_of h part (case_rows h) n row is)) front,
    )

pub returns-in-Err-list_one-clause-stays : goal.returns-in-Err-list_one-clause-stays
returns-in-Err-list_one-clause-stays g c rows holds =
    c.in-Err-list_one.ensures.stays rows (c.in-Ok-Some.ensures.only.stays rows (c.cases.invariant.stays rows holds))

pub cases-preserved : goal.cases-preserved
cases-preserved g c = record {
  few = omega (arith, c.cases.invariant.few, c.in-Ok.ensures.few);
  clean = omega (arith, c.cases.invariant.clean, c.case_row.ensures.only.clean, c.list_one.ensures.clean);
  stays = λ rows holds. c.in-Ok.ensures.stays rows (c.in-Ok-Some.ensures.only.stays rows (c.cases.invariant.stays rows holds));
  told = λ h stands.
      let so_far = c.cases.invariant.told h stands in
      let part = option_copied c.args.part in
      let n = c.cases.before in
      let row = c.in-Ok-Some.row in
      let asks = c.in-Ok-Some.ensures.answer h so_far.0 in
      let lists = c.in-Ok.ensures.lists h asks.0 in (
        lists.0,
        λ clean.
            let asked : HasCleanDisk (state g.S.Store c.case_row.new.self.conn) = omega (arith, clean, c.list_one.ensures.clean) in
            let before : HasCleanDisk (state g.S.Store c.cases.docket.conn) = omega (arith, asked, c.case_row.ensures.only.clean) in
            let is : case_at (case_rows h) (n + 1) ≡ Some row = sym (sym c.in-Ok-Some.field-0-is ∙ asks.1 asked) in
            let more = more_out (g.W.Write.contents c.args.writer.now) (g.W.Write.contents c.cases.writer) (with_party h part (take n (case_rows h))) c.cases.lines (so_far.1 before)
            (g.W.Write.contents c.list_one.new.writer) (with_party h part (row ∷ [])) c.in-Ok.more (lists.1 clean) in
            subst (λ (rows : List CaseRow). GoesOut rows (g.W.Write.contents c.args.writer.now) (g.W.Write.contents c.list_one.new.writer) (Ok (c.cases.lines + c.in-Ok.more))) (sym (one_more h part (case_rows h) n row is)) more,
      );
}

pub returns-clause-lists : goal.returns-clause-lists
returns-clause-lists g c h stands =
    let so_far = c.cases.invariant.told h stands in (
      so_far.0,
      λ clean.
          let told = told_of_all c.args.docket.now.court h stands.docket.history (option_copied c.args.part) c.cases.before (omega (arith, c.cases-test.false)) in
          subst (λ (rows : List CaseRow). GoesOut rows (g.W.Write.contents c.args.writer.now) (g.W.Write.contents c.cases.writer) (Ok c.cases.lines)) (sym told) (so_far.1 clean),
    )
