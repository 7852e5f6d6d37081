use Rattle.std.proofs.Common.{◌≡◌, refl, sym, subst, false, rules}
use Rattle.docket_applying.specs.Applying.{Stands}
use Rattle.docket_applying.specs.Dockets.{Docket, serving}
use Rattle.std.specs.Prelude.{is_some}
use Rattle.docket_store.proofs.OnlyLemmas.{closed_only}
use Rattle.docket_store.proofs.QuestionLemmas.{judges_kept}
use Rattle.docket_store.specs.Asking.{OnlyAnswers}
use Rattle.docket_store.proofs.docket.Docket.decision.Goals as goal

pub returns-clause-answer : goal.returns-clause-answer
returns-clause-answer g c h stands =
    let conn = c.decide_on-answer.new.conn in
    let court = c.self.inside.court in
    let here = subst (λ (d : Docket g.row.S.Denot). Stands g.S.Store d h) (sym c.self.view_is) stands in
    let serves : Stands g.S.Store (serving c.self.inside.conn court c.self.inside.calendar) h = record { docket = here.docket; serves = refl; rows = here.rows; calendar = here.calendar } in
    judges_kept g.S.Store court c.decide_on-answer.new.kept h c.args.command.now conn c.closing_error-self-inside.result c.decide_on-answer.result c.closing_error-self-inside.ensures.fails.0
    (c.decide_on-answer.ensures.judged h serves)

pub returns-clause-only : goal.returns-clause-only
returns-clause-only g c =
    let inside = c.self.inside in
    let by = c.closing_error-self-inside.result in
    let new = c.decide_on-answer.new.conn in
    let kept = c.decide_on-answer.new.kept in
    let unclosed : is_some inside.closed_by ≡ false = search rules in
    subst (λ (d : Docket g.row.S.Denot). OnlyAnswers g.S.Store d (record { conn = new; court = inside.court; closed = is_some by; closed_by = by; calendar = kept }) c.decide_on-answer.result) c.self.view_is
    (closed_only g.S.Store (record { conn = inside.conn; court = inside.court; closed = is_some inside.closed_by; closed_by = inside.closed_by; calendar = inside.calendar }) new kept by c.decide_on-answer.result unclosed
    c.closing_error-self-inside.ensures.fails c.decide_on-answer.new.failure c.decide_on-answer.ensures.leaves c.closing_error-self-inside.ensures.kept)
