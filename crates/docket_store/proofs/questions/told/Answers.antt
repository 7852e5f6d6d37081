use Rattle.std.proofs.Common.{subst}
use Rattle.docket_tables.specs.Readings.{Fails, Stays}
use Rattle.docket_store.proofs.QuestionLemmas.{same_error}
use Rattle.docket_store.proofs.questions.told.Goals as goal

pub returns-in-Err-clause-left : goal.returns-in-Err-clause-left
returns-in-Err-clause-left g c why rows next is fails =
    c.read_fault.ensures.left rows next (subst (Fails g.S.Store c.args.conn.now rows) (same_error c.args.answer why c.in-Err.why is c.in-Err.is) fails)

pub returns-in-Err-clause-stays : goal.returns-in-Err-clause-stays
returns-in-Err-clause-stays g c rows stays = c.read_fault.ensures.stays rows (subst (λ r. Stays g.S.Store c.args.conn.now rows r) c.in-Err.is stays)
