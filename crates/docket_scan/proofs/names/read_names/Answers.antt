use Rattle.docket_scan.proofs.NameLemmas.{first_named, second_err, second_ok}
use Rattle.docket_scan.proofs.names.read_names.Goals as goal

pub returns-in-First-clause-ok : goal.returns-in-First-clause-ok
returns-in-First-clause-ok g c clean = first_named g.S.Store c.args.version c.in-First.is c.args.conn.now c.new.result c.new.ensures

pub returns-in-Second-clause-ok : goal.returns-in-Second-clause-ok
returns-in-Second-clause-ok g c = second_ok g.S.Store c.args.conn.now c.names_in.new.conn c.args.version c.in-Second.is c.names_in.result c.names_in.ensures.told

pub returns-in-Second-clause-err : goal.returns-in-Second-clause-err
returns-in-Second-clause-err g c court next = second_err g.S.Store c.args.conn.now c.names_in.new.conn c.args.version court next c.names_in.result c.names_in.ensures.told
