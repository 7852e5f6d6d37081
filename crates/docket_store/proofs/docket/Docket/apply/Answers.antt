use Rattle.docket_tables.specs.Stands.{HoldsRows}
use Rattle.std.proofs.Common.{sym, subst, ◌≡◌, ◌∙◌, Some, refl}
use Rattle.docket_tables.specs.AnyRows.{AreDocketRows}
use Rattle.docket_applying.specs.Dockets.{Docket, serving}
use Rattle.sqlite.specs.Held.{state}
use Rattle.sqlite.specs.declared.error.Error.{Error}
use Rattle.docket_tables.specs.Causes.{IsCaused, IsLater}
use Rattle.docket_applying.specs.Applying.{Stands}
use Rattle.docket_applying.specs.Causes.{HasWriteCause, IsNotAccepted}
use Rattle.docket_applying.proofs.FailureLemmas.{failed_caused, failed_write}
use Rattle.docket_applying.proofs.AskLemmas.{applies_kept}
use Rattle.docket_store.proofs.docket.Docket.apply.Goals as goal

pub returns-clause-any : goal.returns-clause-any
returns-clause-any g c rows n stored are small holds =
    let here = sym c.self.view_is in
    c.apply_to-answer.ensures.any rows n stored (subst (λ (d : Docket g.row.S.Denot). AreDocketRows d.court n stored rows) here are) small (subst (λ (d : Docket g.row.S.Denot). HoldsRows g.S.Store d.conn rows) here holds)

pub returns-clause-spared : goal.returns-clause-spared
returns-clause-spared g c h stands spared clean failed =
    let court = c.self.inside.court in
    let here = subst (λ (d : Docket g.row.S.Denot). Stands g.S.Store d h) (sym c.self.view_is) stands in
    let serves : Stands g.S.Store (serving c.self.inside.conn court c.self.inside.calendar) h = record { docket = here.docket; serves = refl; rows = here.rows; calendar = here.calendar } in
    let refused = subst (λ (d : Docket g.row.S.Denot). IsNotAccepted d.court h c.args.command.now) (sym c.self.view_is) spared in
    let cause = failed_caused (state g.S.Store c.self.inside.conn) (state g.S.Store c.apply_to-answer.new.conn) c.apply_to-answer.new.failure c.apply_to-answer.result failed (c.apply_to-answer.ensures.spared h serves clean refused) in
    subst (λ (d : Docket g.row.S.Denot). (e : Error) × (c.closing_error-self-inside.result ≡ Some e) × IsCaused (state g.S.Store d.conn) (state g.S.Store c.apply_to-answer.new.conn) e) c.self.view_is
    (cause.0, c.closing_error-self-inside.ensures.kept failed ∙ cause.1, cause.2)

pub returns-clause-cause : goal.returns-clause-cause
returns-clause-cause g c h stands clean failed =
    let court = c.self.inside.court in
    let here = subst (λ (d : Docket g.row.S.Denot). Stands g.S.Store d h) (sym c.self.view_is) stands in
    let serves : Stands g.S.Store (serving c.self.inside.conn court c.self.inside.calendar) h = record { docket = here.docket; serves = refl; rows = here.rows; calendar = here.calendar } in
    let cause = failed_write c.args.command.now (state g.S.Store c.self.inside.conn) (state g.S.Store c.apply_to-answer.new.conn) c.apply_to-answer.new.failure c.apply_to-answer.result failed (c.apply_to-answer.ensures.cause h serves clean) in
    subst (λ (d : Docket g.row.S.Denot). (e : Error) × (c.closing_error-self-inside.result ≡ Some e) × HasWriteCause c.args.command.now (state g.S.Store d.conn) (state g.S.Store c.apply_to-answer.new.conn) e) c.self.view_is
    (cause.0, c.closing_error-self-inside.ensures.kept failed ∙ cause.1, cause.2)

pub returns-clause-answer : goal.returns-clause-answer
returns-clause-answer g c h stands =
    let court = c.self.inside.court in
    let here = subst (λ (d : Docket g.row.S.Denot). Stands g.S.Store d h) (sym c.self.view_is) stands in
    let serves : Stands g.S.Store (serving c.self.inside.conn court c.self.inside.calendar) h = record { docket = here.docket; serves = refl; rows = here.rows; calendar = here.calendar } in
    applies_kept g.S.Store c.apply_to-answer.new.conn court c.apply_to-answer.new.kept h c.args.command.now c.closing_error-self-inside.result c.apply_to-answer.result c.closing_error-self-inside.ensures.fails.0
    (c.apply_to-answer.ensures.answer h serves)

pub returns-clause-later : goal.returns-clause-later
returns-clause-later g c h stands clean =
    let court = c.self.inside.court in
    let here = subst (λ (d : Docket g.row.S.Denot). Stands g.S.Store d h) (sym c.self.view_is) stands in
    let serves : Stands g.S.Store (serving c.self.inside.conn court c.self.inside.calendar) h = record { docket = here.docket; serves = refl; rows = here.rows; calendar = here.calendar } in
    subst (λ (d : Docket g.row.S.Denot). IsLater (state g.S.Store d.conn) (state g.S.Store c.apply_to-answer.new.conn)) c.self.view_is (c.apply_to-answer.ensures.later h serves clean)
