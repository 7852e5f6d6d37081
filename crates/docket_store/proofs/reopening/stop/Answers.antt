use Rattle.std.proofs.Common.{arith}
use Rattle.docket_applying.specs.Applying.{docket_rows}
use Rattle.docket_store.proofs.ReopeningLemmas.{leaves_both, either_of_settled}
use Rattle.docket_store.proofs.reopening.stop.Goals as goal

pub returns-clause-settled : goal.returns-clause-settled
returns-clause-settled g c court h stands clean =
    let quiet = c.into_store.ensures.quiet in
    leaves_both c.args.conn c.into_store.result c.into_store.ensures.undone (c.into_store.ensures.numbered clean) quiet.outcomes court h h
    (either_of_settled _ (docket_rows court h) (stands.1 (omega (arith, quiet.clean, clean))))

pub returns-clause-either : goal.returns-clause-either
returns-clause-either g c court h next lasts clean =
    let quiet = c.into_store.ensures.quiet in
    leaves_both c.args.conn c.into_store.result c.into_store.ensures.undone (c.into_store.ensures.numbered clean) quiet.outcomes court h next
    (lasts.1 (omega (arith, quiet.clean, clean)))

pub returns-clause-clean : goal.returns-clause-clean
returns-clause-clean g c clean = omega (arith, c.into_store.ensures.quiet.clean, clean)
