use Rattle.docket_tables.proofs.AnyLemmas.{as_recorded, receipt_behind, recorded_kept}
use Rattle.docket_tables.proofs.laws.commands_keep_docket_rows.Goals as goal

pub returns-clause-kept : goal.returns-clause-kept
returns-clause-kept c court n stored next rows command reply changes are = recorded_kept court n stored next command reply changes rows are

pub returns-clause-one_more : goal.returns-clause-one_more
returns-clause-one_more c court n next rows command reply changes = receipt_behind court n next command reply changes rows

pub returns-clause-tables : goal.returns-clause-tables
returns-clause-tables c court t stored command reply changes of = as_recorded court t stored command reply changes of
