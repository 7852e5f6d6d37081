use Rattle.std.proofs.Common.{◌∙◌, sym}
use Rattle.docket_scan.proofs.NameLemmas.{refused}
use Rattle.docket_scan.proofs.names.names_unread.Goals as goal

pub returns-in-Damaged-clause-ok : goal.returns-in-Damaged-clause-ok
returns-in-Damaged-clause-ok c = (refused c.args.error c.in-Damaged.field-0 (sym c.fault_in.ensures ∙ c.in-Damaged.is), c.new.ensures)
