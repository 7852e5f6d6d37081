use Rattle.std.proofs.Common.{◌∙◌, Err, Some, ap, inl, inr, refl}
use Rattle.docket_applying.proofs.AnyLemmas.{answered_one, err_ok}
use Rattle.docket_http.specs.Answer.{problem_said}
use Rattle.docket_http.specs.Asking.{problem_to}
use Rattle.docket_http.specs.Entering.{fault_response, manner_of, said_response}
use Rattle.docket_http.specs.declared.problem.Problem.TheVariants.{Closed, NoMemory}
use Rattle.docket_http.proofs.AskingLemmas.{built_replied, err_closed, fault_left, halted_replied, no_error, passed_on, said_left}
use Rattle.docket_http.proofs.ClosedLemmas.{closed_built, closed_told}
use Rattle.docket_http.proofs.EntryLemmas.{entering}
use Rattle.docket_http.proofs.OnlyLemmas.{entered_still, unasked}
use Rattle.docket_http.proofs.RecordedLemmas.{fault_backed, said_backed}
use Rattle.docket_http.proofs.commands.entry_reply.Goals as goal

pub returns-in_err-said-in-Ok : goal.returns-in_err-said-in-Ok
returns-in_err-said-in-Ok g c = λ wish body is.
    let now = c.answer.new.docket in
    let command = c.in-Ok.command in
    let manner = manner_of c.args.writing.now in
    let fault = c.in_err-said-in-Ok.field-0.0 in
    let result = c.from_residual.result in
    let told = c.from_residual.ensures.1 in
    let failed = c.in_err-said-in-Ok.ensures in
    let entered = is ∙ ap (λ r. Some (record { read = r; manner = manner })) c.in-Ok.is in
    record {
      replies = λ h stands. passed_on g.S.Store now h wish body result fault told (halted_replied g.S.Store now h wish body manner command fault entered (λ e. failed.closes (ap Err e)) (failed.halts h stands));
      only = record {
        writes = record {
          court = failed.court;
          clean = failed.clean;
          any = λ rows n stored are small holds. answered_one g.S.Store now.conn rows now.court n command c.answer.result (c.answer.ensures.any rows n stored are small holds);
        };
        still = entered_still g.S.Store c.args.docket.now now wish body _ entered;
        closed = λ shut.
            let closed = failed.closed shut in
            let enters = entering wish body _ entered in
            (closed.1, closed_told wish body result (err_closed result fault told closed.0) (enters.closed (problem_to wish Closed) (inl (ap (λ b. problem_said b Closed) enters.browser))));
        recorded = λ docket. err_ok result _ _ told;
      };
    }

pub returns-in_ok-said-in-Ok : goal.returns-in_ok-said-in-Ok
returns-in_ok-said-in-Ok g c = λ wish body is.
    let now = c.answer.new.docket in
    let command = c.in-Ok.command in
    let manner = manner_of c.args.writing.now in
    let said = c.in_ok-said-in-Ok.said in
    let result = c.said_reply.result in
    let written = c.said_reply.ensures in
    let answered = c.in_ok-said-in-Ok.ensures in
    let entered = is ∙ ap (λ r. Some (record { read = r; manner = manner })) c.in-Ok.is in
    record {
      replies = λ h stands.
          built_replied g.S.Store now h wish body (said_response manner command said) result written.reply written.short (entering wish body _ entered).takes
          (said_left g.S.Store now h wish body manner command said entered (answered.answer h stands));
      only = record {
        writes = record {
          court = answered.court;
          clean = answered.clean;
          any = λ rows n stored are small holds. answered_one g.S.Store now.conn rows now.court n command c.answer.result (c.answer.ensures.any rows n stored are small holds);
        };
        still = entered_still g.S.Store c.args.docket.now now wish body _ entered;
        closed = λ shut. no_error _ _ (answered.closed shut).0;
        recorded = λ docket.
            said_backed g.S.Store now now.court docket.next_row docket.rows command said manner wish body result
            (answered.any docket.rows docket.next_row docket.stored docket.are docket.few docket.holds) entered written.reply;
      };
    }

pub returns-in-Err : goal.returns-in-Err
returns-in-Err g c = λ wish body is.
    let docket = c.args.docket.now in
    let manner = manner_of c.args.writing.now in
    let fault = c.in-Err.fault in
    let result = c.fault_reply.result in
    let written = c.fault_reply.ensures in
    let entered = is ∙ ap (λ r. Some (record { read = r; manner = manner })) c.in-Err.is in
    let enters = entering wish body _ entered in
    record {
      replies = λ h stands. built_replied g.S.Store docket h wish body (fault_response manner fault) result written.reply written.short enters.takes (λ clean. fault_left g.S.Store docket h wish body manner fault entered stands);
      only = unasked g.S.Store docket wish body result
          (closed_built wish body (fault_response manner fault) result written.reply written.short (enters.closed (fault_response manner fault) (inl refl)) (enters.closed (problem_to wish NoMemory) (inr refl)))
          (fault_backed g.S.Store docket fault manner wish body result entered written.reply);
    }
