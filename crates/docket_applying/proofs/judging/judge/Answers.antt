use Rattle.sqlite.specs.Held.{state}
use Rattle.docket_applying.specs.Applying.{Stands}
use Rattle.docket_applying.specs.Dockets.{serving}
use Rattle.docket_applying.proofs.ApplyLemmas.{judged_by, none_caused, none_named}
use Rattle.docket_applying.proofs.IdleLemmas.{idle_err, idle_told}
use Rattle.docket_applying.proofs.judging.judge.Goals as goal

pub returns-in_err-view-clause-leaves : goal.returns-in_err-view-clause-leaves
returns-in_err-view-clause-leaves g c = idle_err c.from_residual.result c.from_residual.ensures.1 c.in_err-view.ensures.leaves

pub returns-clause-leaves : goal.returns-clause-leaves
returns-clause-leaves g c =
    idle_told c.decide_by.result (none_named c.look.new.failure c.decide_by.result c.decide_by.ensures.fault) (none_caused (state g.S.Store c.args.conn.now) (state g.S.Store c.look.new.conn) c.look.new.failure c.decide_by.result c.decide_by.ensures.fault) c.in_ok-view.ensures.leaves

pub returns-clause-judged : goal.returns-clause-judged
returns-clause-judged g c h stands =
    let court = c.args.court.now in
    let seen = c.in_ok-view.ensures.shown court h stands in
    let still : Stands g.S.Store (serving c.look.new.conn court c.decide_by.new.kept) h = record {
      docket = stands.docket;
      serves = stands.serves;
      rows = seen.0.rows;
      calendar = λ clean. c.decide_by.ensures.kept h (seen.1 clean) (seen.0.calendar clean);
    } in
    judged_by g.S.Store _ h c.args.command.now c.decide_by.result still c.decide_by.ensures.fault (λ clean. c.decide_by.ensures.decided h stands.docket (seen.1 clean))

pub returns-clause-repeats : goal.returns-clause-repeats
returns-clause-repeats g c rows holds clean = c.decide_by.ensures.repeats rows (c.in_ok-view.ensures.receipt rows holds clean)
