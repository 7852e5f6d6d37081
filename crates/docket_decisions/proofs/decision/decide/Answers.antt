use Rattle.docket_decisions.proofs.EndUpdates.{ends_moved}
use Rattle.docket_decisions.proofs.Leading.{leads_by}
use Rattle.docket_decisions.proofs.decision.decide.Goals as goal

pub returns-clause-tables : goal.returns-clause-tables
returns-clause-tables c h is = leads_by c.args.court.now h c.args.command.now c.args.view.now _ is c.decide_by_view.ensures.answer c.decide_by_view.ensures.changes

pub returns-clause-ends : goal.returns-clause-ends
returns-clause-ends c h is seen =
    let court = c.args.court.now in
    let command = c.args.command.now in
    let leads = leads_by court h command c.args.view.now _ seen c.decide_by_view.ensures.answer c.decide_by_view.ensures.changes in
    ends_moved court h command c.args.view.now _ is seen c.decide_by_view.ensures.answer leads c.decide_by_view.ensures.ends
