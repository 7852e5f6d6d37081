use Rattle.http_request.specs.Request.{body_of}
use Rattle.docket_http.specs.Asking.{problem_of_fault, problem_to}
use Rattle.docket_http.proofs.AskingLemmas.{problem_told, reply_told}
use Rattle.docket_http.proofs.RecordedLemmas.{problem_backed}
use Rattle.docket_http.proofs.answering.reply_of.Goals as goal

pub returns-in-Ok : goal.returns-in-Ok
returns-in-Ok g c =
    let done = c.in-Ok.ensures in
    record {
      answered = λ h stands clean. reply_told g.S.Store c.reply_to.new.docket h c.args.request.now.wish (body_of c.args.request.now) c.in-Ok.reply (done.replies h stands) clean;
      only = done.only;
    }

pub returns-in-Err : goal.returns-in-Err
returns-in-Err g c =
    let now = c.reply_to.new.docket in
    let wish = c.args.request.now.wish in
    let body = body_of c.args.request.now in
    let problem = problem_of_fault c.in-Err.fault in
    let done = c.in-Err.ensures in
    let reports = c.failure_reply.ensures in
    record {
      answered = λ h stands clean. problem_told g.S.Store now h wish body c.in-Err.fault c.failure_reply.result reports (done.replies h stands) clean;
      only = record {
        writes = done.only.writes;
        still = done.only.still;
        closed = λ shut. let closed = done.only.closed shut in (closed.0, (problem_to wish problem, reports, closed.1));
        recorded = λ rows. problem_backed g.S.Store now wish body problem c.failure_reply.result reports;
      };
    }
