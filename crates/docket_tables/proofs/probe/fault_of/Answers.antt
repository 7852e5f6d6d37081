use Rattle.docket_tables.proofs.probe.fault_of.Goals as goal

pub returns-then-is_alive-clause-left : goal.returns-then-is_alive-clause-left
returns-then-is_alive-clause-left g c rows next lasts = c.is_alive.ensures.alive rows next lasts c.if-is_alive.true
