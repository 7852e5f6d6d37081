use Rattle.std.proofs.Common.{◌∙◌, arith, refl}
use Rattle.docket_serving.proofs.RunLemmas.{by_routes, served_all, served_clean, served_court, served_none, served_stop, served_then}
use Rattle.docket_serving.proofs.serving.serve_run.Goals as goal

pub loop-init : goal.loop-init
loop-init g c =
    let desk = c.args.desk.now in
    record { within = omega arith; routes = refl; served = served_none g.S.Store desk.routes desk.number desk.docket (g.C.Connections.log c.args.connections.now) }

pub returns-in_err-serve_next : goal.returns-in_err-serve_next
returns-in_err-serve_next g c =
    let kept = c.loop.invariant.routes in
    let old = c.args.desk.now in
    let left = c.loop.desk in
    let new = c.serve_next.new.desk in
    let next = by_routes g.S.Store left.routes old.routes kept c.in_err-serve_next.ensures.next in
    let run = served_stop g.S.Store old.routes old.number left.number new.number old.docket left.docket new.docket c.loop.counter c.args.count _ _ _ c.in_err-serve_next.field-0.0 c.from_residual.result
    (omega arith) c.from_residual.ensures.1 c.loop.invariant.served next in
    record {
      routes = c.in_err-serve_next.ensures.routes ∙ kept;
      court = served_court g.S.Store old.routes _ _ _ _ _ _ _ _ run;
      clean = served_clean g.S.Store old.routes _ _ _ _ _ _ _ _ run;
      closed = λ shut. (run.closed shut).0;
      served = run;
    }

pub loop-preserved : goal.loop-preserved
loop-preserved g c =
    let kept = c.loop.invariant.routes in
    let old = c.args.desk.now in
    let left = c.loop.desk in
    let new = c.serve_next.new.desk in
    let next = by_routes g.S.Store left.routes old.routes kept c.in_ok-serve_next.ensures.next in
    record {
      within = omega arith;
      routes = c.in_ok-serve_next.ensures.routes ∙ kept;
      served = served_then g.S.Store old.routes old.number left.number new.number old.docket left.docket new.docket c.loop.counter 1 _ _ _ _ c.loop.invariant.served next;
    }

pub returns : goal.returns
returns g c =
    let old = c.args.desk.now in
    let left = c.loop.desk in
    let run = served_all g.S.Store old.routes old.number left.number old.docket left.docket c.loop.counter c.args.count _ _ _ (omega arith) c.loop.invariant.served in
    record {
      routes = c.loop.invariant.routes;
      court = served_court g.S.Store old.routes _ _ _ _ _ _ _ _ run;
      clean = served_clean g.S.Store old.routes _ _ _ _ _ _ _ _ run;
      closed = λ shut. (run.closed shut).0;
      served = run;
    }
