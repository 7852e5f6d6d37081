use Rattle.std.proofs.Common.{sym}
use Rattle.docket_scan.proofs.NameLemmas.{with_name, without_name}
use Rattle.docket_scan.proofs.names.NameTakerTaker.take.Goals as goal

pub returns-in_ok-put-clause-taken : goal.returns-in_ok-put-clause-taken
returns-in_ok-put-clause-taken c rows has taken =
    with_name c.args.self.now.names c.put.new.self rows c.args.row.now c.in-Some.name.now (sym c.in-Some.ensures) has c.in_ok-put.ensures.ok

pub returns-in_default-clause-taken : goal.returns-in_default-clause-taken
returns-in_default-clause-taken c rows has taken = without_name c.args.self.now.names rows c.args.row.now (sym c.in_default.ensures) has
