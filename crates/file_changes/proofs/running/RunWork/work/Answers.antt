use Rattle.std.proofs.Common.{None, Ok, refl}
use Rattle.docket_applying.specs.CourtDockets.{StandsAs}
use Rattle.file_dockets.proofs.AdoptLemmas.{adopted_all, rejected}
use Rattle.file_changes.proofs.RunLemmas.{ran, unran}
use Rattle.file_changes.proofs.running.RunWork.work.Goals as goal

pub returns-in-Ok-clause-comes : goal.returns-in-Ok-clause-comes
returns-in-Ok-clause-comes g c =
    let lines = c.answer_lines-end in
    ran g.S.Store c.args.conn lines.result.1 _ _ _ None (Ok lines.result.0)
    (adopted_all g.S.Store c.args.conn c.in-Ok.docket c.in-Ok.field-0-1 lines.result.1 None (Ok lines.result.0) c.in-Ok.ensures.told c.in-Ok.ensures.writes_nothing.clean
    lines.ensures.trust tt)
    (λ told is stands clean.
    let adopted = c.in-Ok.ensures.adopted told.court told.history is stands (lines.ensures.trust clean) in
    let here : StandsAs g.S.Store c.in-Ok.docket told = record { court = adopted.1; stands = adopted.0 } in
    lines.ensures.answers told here clean)

pub returns-in-Err-clause-comes : goal.returns-in-Err-clause-comes
returns-in-Err-clause-comes g c =
    let returned = c.in-Err.field-0 in
    let why = c.in-Err.ensures in
    unran g.S.Store c.args.conn returned.connection _ _ _ returned.failure returned.fault
    (rejected g.S.Store c.args.conn returned.connection returned.failure returned.fault why.told why.cause why.writes_nothing) refl (λ told. why.adopted told.court told.history)
