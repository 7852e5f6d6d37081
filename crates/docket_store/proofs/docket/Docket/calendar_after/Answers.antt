use Rattle.std.proofs.Common.{◌≡◌, ◌∙◌, Some, refl, sym, subst}
use Rattle.sqlite.specs.Held.{state}
use Rattle.sqlite.specs.declared.error.Error.{Error}
use Rattle.docket_tables.specs.Causes.{IsCaused}
use Rattle.docket_applying.proofs.FailureLemmas.{broken_caused}
use Rattle.docket_applying.specs.Applying.{Stands}
use Rattle.docket_applying.specs.Dockets.{Docket, serving}
use Rattle.docket_applying.proofs.ListingLemmas.{lists_kept}
use Rattle.docket_tables.specs.Stands.{HoldsRows}
use Rattle.docket_store.proofs.docket.Docket.calendar_after.Goals as goal

pub returns-clause-answer : goal.returns-clause-answer
returns-clause-answer g c h stands =
    let conn = c.list_days-answer.new.conn in
    let court = c.self.inside.court in
    let old = c.self.inside.calendar in
    let kept = c.list_days-answer.new.kept in
    let here = subst (λ (d : Docket g.row.S.Denot). Stands g.S.Store d h) (sym c.self.view_is) stands in
    let serves : Stands g.S.Store (serving c.self.inside.conn court old) h = record { docket = here.docket; serves = refl; rows = here.rows; calendar = here.calendar } in
    lists_kept g.S.Store h c.args.from c.args.to c.args.front.now (g.W.Write.contents c.args.writer.now) (g.W.Write.contents c.list_days-answer.new.writer) conn court kept
    c.breaking_error-self-inside.result c.list_days-answer.result c.breaking_error-self-inside.ensures.fails.0
    (c.list_days-answer.ensures.lists h serves)

pub returns-clause-stays : goal.returns-clause-stays
returns-clause-stays g c rows holds = c.list_days-answer.ensures.stays rows (subst (λ (d : Docket g.row.S.Denot). HoldsRows g.S.Store d.conn rows) (sym c.self.view_is) holds)

pub returns-clause-cause : goal.returns-clause-cause
returns-clause-cause g c rows holds clean broken =
    let before = subst (λ (d : Docket g.row.S.Denot). HoldsRows g.S.Store d.conn rows) (sym c.self.view_is) holds in
    let cause = broken_caused (state g.S.Store c.self.inside.conn) (state g.S.Store c.list_days-answer.new.conn) c.list_days-answer.new.failure c.list_days-answer.result broken (c.list_days-answer.ensures.cause rows before clean) in
    subst (λ (d : Docket g.row.S.Denot). (e : Error) × (c.breaking_error-self-inside.result ≡ Some e) × IsCaused (state g.S.Store d.conn) (state g.S.Store c.list_days-answer.new.conn) e) c.self.view_is
    (cause.0, c.breaking_error-self-inside.ensures.kept broken ∙ cause.1, cause.2)
