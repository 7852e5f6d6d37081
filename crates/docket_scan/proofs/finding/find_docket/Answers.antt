use Rattle.std.proofs.Common.{◌∙◌, inl, inr, Ok, sym, subst, arith}
use Rattle.sqlite.specs.Held.{state}
use Rattle.sqlite.specs.State.{HasCleanDisk}
use Rattle.sqlite.proofs.Callers.{unchanged_then}
use Rattle.docket_scan.specs.Causes.{IsCausedFault}
use Rattle.docket_scan.specs.Finding.{ReadsCourt}
use Rattle.docket_scan.proofs.CauseLemmas.{err_caused, fault_after}
use Rattle.docket_scan.proofs.DocketCourt.{docket_found}
use Rattle.docket_scan.proofs.FindingLemmas.{court_had, court_refused, judged_fault, judged_sound, not_taken}
use Rattle.docket_scan.proofs.finding.find_docket.Goals as goal

pub returns-in_err-row-clause-docket : goal.returns-in_err-row-clause-docket
returns-in_err-row-clause-docket g c clean =
    let old = state g.S.Store c.args.conn.now in
    let new = state g.S.Store c.read_court.new.conn in
    let early : HasCleanDisk old = omega (arith, clean, c.read_court.ensures.writes_nothing.clean) in
    let told = rw c.in_err-row.was at (c.read_court.ensures.told clean) in
    docket_found g.S.Store c.args.version c.args.conn.now new c.from_residual.result early
    (not_taken c.args.version old new c.from_residual.result c.in_err-row.field-0.0 c.from_residual.ensures.1 told)

pub returns-in_err-judged-clause-docket : goal.returns-in_err-judged-clause-docket
returns-in_err-judged-clause-docket g c clean =
    let old = state g.S.Store c.args.conn.now in
    let new = state g.S.Store c.read_court.new.conn in
    let early : HasCleanDisk old = omega (arith, clean, c.read_court.ensures.writes_nothing.clean) in
    let read = rw c.in_ok-row.was at (c.read_court.ensures.told clean) in
    let fault = c.in_err-judged.field-0.0 in
    docket_found g.S.Store c.args.version c.args.conn.now new c.from_residual-in_err-judged.result early
    (not_taken c.args.version old new c.from_residual-in_err-judged.result fault c.from_residual-in_err-judged.ensures.1
    (court_refused c.args.version old new c.in_ok-row.row fault read c.in_err-judged.ensures.err))

pub returns-in_err-held-clause-told : goal.returns-in_err-held-clause-told
returns-in_err-held-clause-told g c clean =
    let old = state g.S.Store c.args.conn.now in
    let mid = state g.S.Store c.read_court.new.conn in
    let new = state g.S.Store c.judge_tables.new.conn in
    let between : HasCleanDisk mid = omega (arith, clean, c.judge_tables.ensures.writes_nothing.clean) in
    let read = rw c.in_ok-row.was at (c.read_court.ensures.told between) in
    let has = court_had c.args.version old mid c.in_ok-row.row c.in_ok-judged.judged read c.in_ok-judged.ensures.ok in
    let fault = c.in_err-held.field-0.0 in
    let told = rw c.in_err-held.was at (c.judge_tables.ensures.told clean) in
    not_taken c.args.version old new c.from_residual-in_err-held.result fault c.from_residual-in_err-held.ensures.1
    (judged_fault old mid read.0 c.args.version c.in_ok-judged.judged c.in_ok-row.row.next_row has new fault told)

pub returns-in_err-held-clause-docket : goal.returns-in_err-held-clause-docket
returns-in_err-held-clause-docket g c clean =
    let old = state g.S.Store c.args.conn.now in
    let early : HasCleanDisk old = omega (arith, clean, c.judge_tables.ensures.writes_nothing.clean, c.read_court.ensures.writes_nothing.clean) in
    docket_found g.S.Store c.args.version c.args.conn.now (state g.S.Store c.judge_tables.new.conn) c.from_residual-in_err-held.result early
    (returns-in_err-held-clause-told g c clean)

pub returns-in_err-court-clause-told : goal.returns-in_err-court-clause-told
returns-in_err-court-clause-told g c clean =
    let old = state g.S.Store c.args.conn.now in
    let mid = state g.S.Store c.read_court.new.conn in
    let new = state g.S.Store c.judge_tables.new.conn in
    let between : HasCleanDisk mid = omega (arith, clean, c.judge_tables.ensures.writes_nothing.clean) in
    let read = rw c.in_ok-row.was at (c.read_court.ensures.told between) in
    let judged = rw c.in_ok-held.was at (c.judge_tables.ensures.told clean) in
    let still : ReadsCourt c.args.version old new (Ok c.in_ok-row.row) = (unchanged_then old mid new read.0 judged.0, read.1, read.2, read.3, read.4) in
    let fault = c.in_err-court.field-0.0 in
    not_taken c.args.version old new c.from_residual-in_err-court.result fault c.from_residual-in_err-court.ensures.1
    (court_refused c.args.version old new c.in_ok-row.row fault still c.in_err-court.ensures.err)

pub returns-in_err-court-clause-docket : goal.returns-in_err-court-clause-docket
returns-in_err-court-clause-docket g c clean =
    let old = state g.S.Store c.args.conn.now in
    let early : HasCleanDisk old = omega (arith, clean, c.judge_tables.ensures.writes_nothing.clean, c.read_court.ensures.writes_nothing.clean) in
    docket_found g.S.Store c.args.version c.args.conn.now (state g.S.Store c.judge_tables.new.conn) c.from_residual-in_err-court.result early
    (returns-in_err-court-clause-told g c clean)

pub returns-clause-told : goal.returns-clause-told
returns-clause-told g c clean =
    let old = state g.S.Store c.args.conn.now in
    let mid = state g.S.Store c.read_court.new.conn in
    let new = state g.S.Store c.judge_tables.new.conn in
    let between : HasCleanDisk mid = omega (arith, clean, c.judge_tables.ensures.writes_nothing.clean) in
    let read = rw c.in_ok-row.was at (c.read_court.ensures.told between) in
    let has = court_had c.args.version old mid c.in_ok-row.row c.in_ok-judged.judged read c.in_ok-judged.ensures.ok in
    let told = rw c.in_ok-held.was at (c.judge_tables.ensures.told clean) in
    let same = c.in_ok-court.ensures.ok.1 ∙ sym c.in_ok-judged.ensures.ok.1 in
    judged_sound old mid read.0 c.args.version c.in_ok-judged.judged c.in_ok-row.row.next_row has new (record { court = c.in_ok-court.court; held = c.in_ok-held.held }) same told

pub returns-clause-docket : goal.returns-clause-docket
returns-clause-docket g c clean =
    let old = state g.S.Store c.args.conn.now in
    let early : HasCleanDisk old = omega (arith, clean, c.judge_tables.ensures.writes_nothing.clean, c.read_court.ensures.writes_nothing.clean) in
    docket_found g.S.Store c.args.version c.args.conn.now (state g.S.Store c.judge_tables.new.conn) (Ok (record { court = c.in_ok-court.court; held = c.in_ok-held.held })) early
    (returns-clause-told g c clean)

pub returns-in_err-row-clause-cause : goal.returns-in_err-row-clause-cause
returns-in_err-row-clause-cause g c clean =
    err_caused (state g.S.Store c.args.conn.now) (state g.S.Store c.read_court.new.conn) c.in_err-row.field-0.0 c.from_residual.result c.from_residual.ensures.1 (c.in_err-row.ensures.cause clean)

pub returns-in_err-judged-clause-cause : goal.returns-in_err-judged-clause-cause
returns-in_err-judged-clause-cause g c clean =
    let old = state g.S.Store c.args.conn.now in
    let new = state g.S.Store c.read_court.new.conn in
    err_caused old new c.in_err-judged.field-0.0 c.from_residual-in_err-judged.result c.from_residual-in_err-judged.ensures.1 (elim c.in_err-judged.ensures.err [
      | inl short ↦ subst (IsCausedFault old new) (sym short) tt
      | inr unsound ↦ subst (IsCausedFault old new) (sym unsound.0) tt
    ])

pub returns-in_err-court-clause-cause : goal.returns-in_err-court-clause-cause
returns-in_err-court-clause-cause g c clean =
    let old = state g.S.Store c.args.conn.now in
    let new = state g.S.Store c.judge_tables.new.conn in
    err_caused old new c.in_err-court.field-0.0 c.from_residual-in_err-court.result c.from_residual-in_err-court.ensures.1 (elim c.in_err-court.ensures.err [
      | inl short ↦ subst (IsCausedFault old new) (sym short) tt
      | inr unsound ↦ subst (IsCausedFault old new) (sym unsound.0) tt
    ])

pub returns-in_err-held-clause-cause : goal.returns-in_err-held-clause-cause
returns-in_err-held-clause-cause g c clean =
    let fault = c.in_err-held.field-0.0 in
    err_caused (state g.S.Store c.args.conn.now) (state g.S.Store c.judge_tables.new.conn) fault c.from_residual-in_err-held.result c.from_residual-in_err-held.ensures.1
    (fault_after c.read_court.ensures.writes_nothing c.judge_tables.ensures.writes_nothing clean fault (c.in_err-held.ensures.cause clean))
