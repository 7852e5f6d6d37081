use Rattle.std.proofs.Common.{◌≡◌, refl, sym, subst, false, rules}
use Rattle.docket_applying.specs.Applying.{Stands}
use Rattle.docket_applying.specs.Dockets.{Docket, serving}
use Rattle.docket_applying.specs.Grounds.{AreGrounds}
use Rattle.docket_applying.proofs.AskLemmas.{asks_kept}
use Rattle.std.specs.Prelude.{IfOk, IfSome, is_some}
use Rattle.court_days.specs.Court.{zone_of}
use Rattle.court_rules.specs.Standings.{AreActs}
use Rattle.docket_store.proofs.OnlyLemmas.{closed_only}
use Rattle.docket_store.specs.Asking.{OnlyAnswers}
use Rattle.docket_store.proofs.docket.Docket.grounds.Goals as goal

pub returns-clause-answer : goal.returns-clause-answer
returns-clause-answer g c h stands =
    let conn = c.grounds_of-answer.new.conn in
    let court = c.self.inside.court in
    let old = c.self.inside.calendar in
    let kept = c.grounds_of-answer.new.kept in
    let by = c.closing_error-self-inside.result in
    let here = subst (λ (d : Docket g.row.S.Denot). Stands g.S.Store d h) (sym c.self.view_is) stands in
    let serves : Stands g.S.Store (serving c.self.inside.conn court old) h = record { docket = here.docket; serves = refl; rows = here.rows; calendar = here.calendar } in
    asks_kept g.S.Store conn court kept h (AreGrounds h c.args.case c.args.deadline) by c.grounds_of-answer.result c.closing_error-self-inside.ensures.fails.0
    (c.grounds_of-answer.ensures.answer h serves)

pub returns-clause-acts : goal.returns-clause-acts
returns-clause-acts g c =
    subst (λ (d : Docket g.row.S.Denot). IfOk c.grounds_of-answer.result (λ found. IfSome found (λ grounds. AreActs (zone_of d.court) grounds.deadline.acts))) c.self.view_is c.grounds_of-answer.ensures.acts

pub returns-clause-only : goal.returns-clause-only
returns-clause-only g c =
    let inside = c.self.inside in
    let by = c.closing_error-self-inside.result in
    let new = c.grounds_of-answer.new.conn in
    let kept = c.grounds_of-answer.new.kept in
    let unclosed : is_some inside.closed_by ≡ false = search rules in
    subst (λ (d : Docket g.row.S.Denot). OnlyAnswers g.S.Store d (record { conn = new; court = inside.court; closed = is_some by; closed_by = by; calendar = kept }) c.grounds_of-answer.result) c.self.view_is
    (closed_only g.S.Store (record { conn = inside.conn; court = inside.court; closed = is_some inside.closed_by; closed_by = inside.closed_by; calendar = inside.calendar }) new kept by c.grounds_of-answer.result unclosed
    c.closing_error-self-inside.ensures.fails c.grounds_of-answer.new.failure c.grounds_of-answer.ensures.leaves c.closing_error-self-inside.ensures.kept)
