use Rattle.std.proofs.Common.{◌∙◌, sym, ap}
use Rattle.docket_serving.specs.Exchanges.{tells_failure}
use Rattle.docket_serving.proofs.RunLemmas.{served_failed, served_one}
use Rattle.docket_serving.proofs.serving.serve_next.Goals as goal

pub returns-then-is_failed : goal.returns-then-is_failed
returns-then-is_failed g c =
    let met = c.in-Ok.ensures.attended in
    let old = c.args.desk.now in
    let new = c.next.new.attendant in
    record { routes = met.3.0; next = served_failed g.S.Store old.routes old.number new.number old.docket new.docket met.0 _ _ met.2 met.3.1 met.3.2 (ap tells_failure met.1 ∙ sym c.is_failed.ensures ∙ c.if-is_failed.true) }

pub returns : goal.returns
returns g c =
    let met = c.in-Ok.ensures.attended in
    let old = c.args.desk.now in
    let new = c.next.new.attendant in
    record { routes = met.3.0; next = served_one g.S.Store old.routes old.number new.number old.docket new.docket met.0 _ _ met.2 met.3.1 met.3.2 (ap tells_failure met.1 ∙ sym c.is_failed.ensures ∙ c.if-is_failed.false) }
