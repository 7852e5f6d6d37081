use Rattle.std.proofs.Common.{subst}
use Rattle.docket_tables.specs.Readings.{Fails, StaysAt}
use Rattle.docket_tables.specs.Stands.{Lasts}
use Rattle.docket_tables.specs.declared.fault.ReadFault.{ReadFault}
use Rattle.docket_applying.proofs.ApplyLemmas.{either_from_lasts}
use Rattle.docket_applying.proofs.fault.read_fault.Goals as goal

pub returns-in-Store-clause-left : goal.returns-in-Store-clause-left
returns-in-Store-clause-left g c rows next fails =
    let lasts : Lasts g.S.Store c.args.conn.now rows = subst (λ (f : ReadFault). Fails g.S.Store c.args.conn.now rows f) c.in-Store.is fails in
    c.store_fault.ensures.left rows next (either_from_lasts g.S.Store c.args.conn.now rows next lasts)

pub returns-in-Store-clause-stays : goal.returns-in-Store-clause-stays
returns-in-Store-clause-stays g c rows left = c.store_fault.ensures.stays rows (subst (λ (f : ReadFault). StaysAt g.S.Store c.args.conn.now rows f) c.in-Store.is left)

pub returns-in-NoMemory-clause-stays : goal.returns-in-NoMemory-clause-stays
returns-in-NoMemory-clause-stays g c rows left = subst (λ (f : ReadFault). StaysAt g.S.Store c.args.conn.now rows f) c.in-NoMemory.is left

pub returns-in-Damaged-clause-stays : goal.returns-in-Damaged-clause-stays
returns-in-Damaged-clause-stays g c rows left = subst (λ (f : ReadFault). StaysAt g.S.Store c.args.conn.now rows f) c.in-Damaged.is left
