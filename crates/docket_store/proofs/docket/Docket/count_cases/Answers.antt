use Rattle.std.proofs.Common.{◌≡◌, ℕ, length, sym, subst, arith, false, rules}
use Rattle.docket_history.specs.Histories.{case_rows}
use Rattle.docket_decisions.specs.Tables.{rows_of}
use Rattle.docket_applying.specs.Applying.{Stands}
use Rattle.docket_applying.specs.Dockets.{Docket}
use Rattle.docket_applying.proofs.ApplyLemmas.{docket_orderly}
use Rattle.docket_store.proofs.QuestionLemmas.{question_asks}
use Rattle.docket_store.proofs.OnlyLemmas.{told_only}
use Rattle.docket_store.specs.Asking.{OnlyAnswers}
use Rattle.std.specs.Prelude.{is_some}
use Rattle.docket_store.proofs.docket.Docket.count_cases.Goals as goal

pub returns-clause-answer : goal.returns-clause-answer
returns-clause-answer g c h stands =
    let conn = c.cases-found.new.conn in
    let court = c.self.inside.court in
    let here = subst (λ (d : Docket g.row.S.Denot). Stands g.S.Store d h) (sym c.self.view_is) stands in
    question_asks g.S.Store court c.self.inside.calendar h {X = ℕ} conn c.told.new.conn (λ found. found ≡ length (case_rows h)) c.cases-found.result c.told.new.closed_by c.told.result here.docket
    (λ clean. here.calendar (omega (arith, c.cases-found.ensures.only.writes_nothing.clean, clean))) c.told.ensures.writes_nothing.clean (c.cases-found.ensures.read court (rows_of court h) (docket_orderly court h here.docket) here.rows)
    c.told.ensures.ok c.told.ensures.left c.told.ensures.closes

pub returns-clause-only : goal.returns-clause-only
returns-clause-only g c =
    let inside = c.self.inside in
    let by = c.told.new.closed_by in
    let new = c.told.new.conn in
    let unclosed : is_some inside.closed_by ≡ false = search rules in
    subst (λ (d : Docket g.row.S.Denot). OnlyAnswers g.S.Store d (record { conn = new; court = inside.court; closed = is_some by; closed_by = by; calendar = inside.calendar }) c.told.result) c.self.view_is
    (told_only g.S.Store (record { conn = inside.conn; court = inside.court; closed = is_some inside.closed_by; closed_by = inside.closed_by; calendar = inside.calendar }) new inside.calendar by c.told.result unclosed
    c.told.ensures.closes c.cases-found.new.conn c.cases-found.result c.cases-found.ensures.only c.told.ensures.writes_nothing c.told.ensures.stays c.told.ensures.blames)
