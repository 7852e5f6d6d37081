use Rattle.std.proofs.Common.{◌≡◌, Ok, ◌≤◌}
use Rattle.docket_serving.specs.Serving.{ServesRun}
use Rattle.docket_serving.proofs.serving.serve_run.Given as goal

abbrev pub invariant-loop : goal.invariant-loop
invariant-loop g l = record {
  within : l.counter ≤ l.fn.count;
  routes : l.desk.routes ≡ l.fn.desk.routes;
  served : ServesRun g.S.Store l.fn.desk.routes l.fn.desk.number l.desk.number l.fn.desk.docket l.desk.docket l.counter (g.C.Connections.log l.fn.connections) (g.C.Connections.log l.connections) (Ok tt);
}
