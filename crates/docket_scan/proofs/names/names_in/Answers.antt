use Rattle.sqlite.specs.Held.{state}
use Rattle.docket_scan.proofs.CauseLemmas.{same_caused}
use Rattle.docket_scan.proofs.NameLemmas.{names_read, names_unread}
use Rattle.docket_tables.specs.declared.table.Table.TheVariants as table
use Rattle.docket_scan.proofs.names.names_in.Goals as goal

pub returns-in-Ok-clause-told : goal.returns-in-Ok-clause-told
returns-in-Ok-clause-told g c clean =
    let old = state g.S.Store c.args.conn.now in
    let new = state g.S.Store c.scan.new.conn in
    names_read old new c.scan.new.check.names c.in-Ok.field-0 (rw c.in-Ok.is at (c.scan.ensures.told clean c.new.ensures))

pub returns-in-Err-clause-told : goal.returns-in-Err-clause-told
returns-in-Err-clause-told g c clean =
    let old = state g.S.Store c.args.conn.now in
    let new = state g.S.Store c.scan.new.conn in
    names_unread old new c.in-Err.error c.names_unread.result (rw c.in-Err.is at (c.scan.ensures.told clean c.new.ensures)) c.names_unread.ensures.ok c.names_unread.ensures.err

pub returns-in-Err-clause-cause : goal.returns-in-Err-clause-cause
returns-in-Err-clause-cause g c clean =
    let old = state g.S.Store c.args.conn.now in
    let new = state g.S.Store c.scan.new.conn in
    same_caused table.LocalRules old new c.in-Err.error c.names_unread.result c.names_unread.ensures.which (c.in-Err.ensures.cause clean)
