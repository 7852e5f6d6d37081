use Rattle.docket_applying.proofs.ApplyLemmas.{either_from_lasts, lasts_from_either}
use Rattle.docket_applying.proofs.fault.store_fault.Goals as goal

pub returns-in-NoMemory-clause-left : goal.returns-in-NoMemory-clause-left
returns-in-NoMemory-clause-left g c rows next lasts = c.in-NoMemory.ensures.left rows next lasts

pub returns-in-StoreFailed-clause-left : goal.returns-in-StoreFailed-clause-left
returns-in-StoreFailed-clause-left g c rows next lasts = c.in-StoreFailed.ensures.left rows next lasts

pub returns-in-NoMemory-clause-stays : goal.returns-in-NoMemory-clause-stays
returns-in-NoMemory-clause-stays g c rows lasts = c.in-NoMemory.ensures.left rows rows (either_from_lasts g.S.Store c.args.conn.now rows rows lasts)

pub returns-in-StoreFailed-clause-stays : goal.returns-in-StoreFailed-clause-stays
returns-in-StoreFailed-clause-stays g c rows lasts = lasts_from_either g.S.Store c.fault_of.new.conn rows (c.in-StoreFailed.ensures.left rows rows (either_from_lasts g.S.Store c.args.conn.now rows rows lasts))
