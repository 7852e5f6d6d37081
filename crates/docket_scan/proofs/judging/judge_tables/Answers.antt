use Rattle.std.proofs.Common.{◌≡◌}
use Rattle.sqlite.specs.Held.{state}
use Rattle.docket_scan.specs.Holdings.{holdings_of}
use Rattle.docket_scan.proofs.CauseLemmas.{err_caused, fault_after, result_after}
use Rattle.docket_scan.proofs.JudgingLemmas.{told_of}
use Rattle.docket_scan.proofs.ScanLemmas.{nothing_then}
use Rattle.docket_scan.proofs.judging.judge_tables.Goals as goal

pub returns-in_err-names-clause-told : goal.returns-in_err-names-clause-told
returns-in_err-names-clause-told g c clean =
    let first = c.args.conn.now in
    let version = c.args.version in
    let court = c.args.court in
    let next = c.args.next_row in
    let fault = c.in_err-names.field-0.0 in
    told_of version court next (state g.S.Store first) (state g.S.Store c.read_names.new.conn) (λ r held. held ≡ holdings_of court r) c.from_residual.result fault c.from_residual.ensures.1
    (c.in_err-names.ensures.err court next clean)

pub returns-in_err-read-clause-told : goal.returns-in_err-read-clause-told
returns-in_err-read-clause-told g c clean =
    let first = c.args.conn.now in
    let version = c.args.version in
    let court = c.args.court in
    let next = c.args.next_row in
    let names = c.in_ok-names.ensures.ok in
    let fault = c.in_err-read.field-0.0 in
    told_of version court next (state g.S.Store first) (state g.S.Store c.judge_calendar.new.conn) (λ r held. held ≡ holdings_of court r) c.from_residual-in_err-read.result fault c.from_residual-in_err-read.ensures.1
    (c.in_err-read.ensures.err version first names clean)

pub returns-in_err-acts-clause-writes_nothing : goal.returns-in_err-acts-clause-writes_nothing
returns-in_err-acts-clause-writes_nothing g c = nothing_then (nothing_then c.read_names.ensures.writes_nothing c.judge_calendar.ensures.writes_nothing) c.judge_through_deadlines.ensures.writes_nothing

pub returns-in_err-acts-clause-mode : goal.returns-in_err-acts-clause-mode
returns-in_err-acts-clause-mode g c idle = c.judge_through_deadlines.ensures.mode (c.judge_calendar.ensures.mode (c.read_names.ensures.mode idle))

pub returns-in_err-acts-clause-told : goal.returns-in_err-acts-clause-told
returns-in_err-acts-clause-told g c clean =
    let first = c.args.conn.now in
    let version = c.args.version in
    let court = c.args.court in
    let next = c.args.next_row in
    let names = c.in_ok-names.ensures.ok in
    let read = c.in_ok-read.ensures.ok version first names in
    let fault = c.in_err-acts.field-0.0 in
    told_of version court next (state g.S.Store first) (state g.S.Store c.judge_through_deadlines.new.conn) (λ r held. held ≡ holdings_of court r) c.from_residual-in_err-acts.result fault c.from_residual-in_err-acts.ensures.1
    (c.in_err-acts.ensures.err version first court next read clean)

pub returns-in_err-ends-clause-writes_nothing : goal.returns-in_err-ends-clause-writes_nothing
returns-in_err-ends-clause-writes_nothing g c = nothing_then (nothing_then (nothing_then c.read_names.ensures.writes_nothing c.judge_calendar.ensures.writes_nothing) c.judge_through_deadlines.ensures.writes_nothing) c.judge_acts.ensures.writes_nothing

pub returns-in_err-ends-clause-mode : goal.returns-in_err-ends-clause-mode
returns-in_err-ends-clause-mode g c idle = c.judge_acts.ensures.mode (c.judge_through_deadlines.ensures.mode (c.judge_calendar.ensures.mode (c.read_names.ensures.mode idle)))

pub returns-in_err-ends-clause-told : goal.returns-in_err-ends-clause-told
returns-in_err-ends-clause-told g c clean =
    let first = c.args.conn.now in
    let version = c.args.version in
    let court = c.args.court in
    let next = c.args.next_row in
    let names = c.in_ok-names.ensures.ok in
    let read = c.in_ok-read.ensures.ok version first names in
    let acts = c.in_ok-acts.ensures.ok version first court next read in
    let fault = c.in_err-ends.field-0.0 in
    told_of version court next (state g.S.Store first) (state g.S.Store c.judge_acts.new.conn) (λ r held. held ≡ holdings_of court r) c.from_residual-in_err-ends.result fault c.from_residual-in_err-ends.ensures.1
    (c.in_err-ends.ensures.err version first court next acts clean)

pub returns-in_err-ends-2-clause-writes_nothing : goal.returns-in_err-ends-2-clause-writes_nothing
returns-in_err-ends-2-clause-writes_nothing g c = nothing_then (nothing_then (nothing_then (nothing_then c.read_names.ensures.writes_nothing c.judge_calendar.ensures.writes_nothing) c.judge_through_deadlines.ensures.writes_nothing) c.judge_acts.ensures.writes_nothing) c.judge_receipts.ensures.writes_nothing

pub returns-in_err-ends-2-clause-mode : goal.returns-in_err-ends-2-clause-mode
returns-in_err-ends-2-clause-mode g c idle = c.judge_receipts.ensures.mode (c.judge_acts.ensures.mode (c.judge_through_deadlines.ensures.mode (c.judge_calendar.ensures.mode (c.read_names.ensures.mode idle))))

pub returns-in_err-ends-2-clause-told : goal.returns-in_err-ends-2-clause-told
returns-in_err-ends-2-clause-told g c clean =
    let first = c.args.conn.now in
    let version = c.args.version in
    let court = c.args.court in
    let next = c.args.next_row in
    let names = c.in_ok-names.ensures.ok in
    let read = c.in_ok-read.ensures.ok version first names in
    let acts = c.in_ok-acts.ensures.ok version first court next read in
    let ends = c.in_ok-ends.ensures.ok version first court next acts in
    let fault = c.in_err-ends-2.field-0.0 in
    told_of version court next (state g.S.Store first) (state g.S.Store c.judge_receipts.new.conn) (λ r held. held ≡ holdings_of court r) c.from_residual-in_err-ends-2.result fault c.from_residual-in_err-ends-2.ensures.1
    (c.in_err-ends-2.ensures.err first court next ends clean)

pub returns-in_err-last-clause-writes_nothing : goal.returns-in_err-last-clause-writes_nothing
returns-in_err-last-clause-writes_nothing g c = nothing_then (nothing_then (nothing_then (nothing_then (nothing_then c.read_names.ensures.writes_nothing c.judge_calendar.ensures.writes_nothing) c.judge_through_deadlines.ensures.writes_nothing) c.judge_acts.ensures.writes_nothing) c.judge_receipts.ensures.writes_nothing) c.judge_due.ensures.writes_nothing

pub returns-in_err-last-clause-mode : goal.returns-in_err-last-clause-mode
returns-in_err-last-clause-mode g c idle = c.judge_due.ensures.mode (c.judge_receipts.ensures.mode (c.judge_acts.ensures.mode (c.judge_through_deadlines.ensures.mode (c.judge_calendar.ensures.mode (c.read_names.ensures.mode idle)))))

pub returns-in_err-last-clause-told : goal.returns-in_err-last-clause-told
returns-in_err-last-clause-told g c clean =
    let first = c.args.conn.now in
    let version = c.args.version in
    let court = c.args.court in
    let next = c.args.next_row in
    let names = c.in_ok-names.ensures.ok in
    let read = c.in_ok-read.ensures.ok version first names in
    let acts = c.in_ok-acts.ensures.ok version first court next read in
    let ends = c.in_ok-ends.ensures.ok version first court next acts in
    let ends = c.in_ok-ends-2.ensures.ok first court next ends in
    let fault = c.in_err-last.field-0.0 in
    told_of version court next (state g.S.Store first) (state g.S.Store c.judge_due.new.conn) (λ r held. held ≡ holdings_of court r) c.from_residual-in_err-last.result fault c.from_residual-in_err-last.ensures.1
    (c.in_err-last.ensures.err version first court next ends clean)

pub returns-clause-writes_nothing : goal.returns-clause-writes_nothing
returns-clause-writes_nothing g c = nothing_then (nothing_then (nothing_then (nothing_then (nothing_then (nothing_then c.read_names.ensures.writes_nothing c.judge_calendar.ensures.writes_nothing) c.judge_through_deadlines.ensures.writes_nothing) c.judge_acts.ensures.writes_nothing) c.judge_receipts.ensures.writes_nothing) c.judge_due.ensures.writes_nothing) c.judge_more.ensures.writes_nothing

pub returns-clause-mode : goal.returns-clause-mode
returns-clause-mode g c idle = c.judge_more.ensures.mode (c.judge_due.ensures.mode (c.judge_receipts.ensures.mode (c.judge_acts.ensures.mode (c.judge_through_deadlines.ensures.mode (c.judge_calendar.ensures.mode (c.read_names.ensures.mode idle))))))

pub returns-clause-told : goal.returns-clause-told
returns-clause-told g c clean =
    let first = c.args.conn.now in
    let version = c.args.version in
    let court = c.args.court in
    let next = c.args.next_row in
    let names = c.in_ok-names.ensures.ok in
    let read = c.in_ok-read.ensures.ok version first names in
    let acts = c.in_ok-acts.ensures.ok version first court next read in
    let ends = c.in_ok-ends.ensures.ok version first court next acts in
    let ends = c.in_ok-ends-2.ensures.ok first court next ends in
    let last = c.in_ok-last.ensures.ok version first court next ends in
    c.judge_more.ensures.told first court next last clean

pub returns-in_err-names-clause-cause : goal.returns-in_err-names-clause-cause
returns-in_err-names-clause-cause g c clean =
    let fault = c.in_err-names.field-0.0 in
    err_caused (state g.S.Store c.args.conn.now) (state g.S.Store c.read_names.new.conn) fault c.from_residual.result c.from_residual.ensures.1 (c.in_err-names.ensures.cause clean)

pub returns-in_err-read-clause-cause : goal.returns-in_err-read-clause-cause
returns-in_err-read-clause-cause g c clean =
    let fault = c.in_err-read.field-0.0 in
    err_caused (state g.S.Store c.args.conn.now) (state g.S.Store c.judge_calendar.new.conn) fault c.from_residual-in_err-read.result c.from_residual-in_err-read.ensures.1
    (fault_after c.read_names.ensures.writes_nothing c.judge_calendar.ensures.writes_nothing clean fault (c.in_err-read.ensures.cause clean))

pub returns-in_err-acts-clause-cause : goal.returns-in_err-acts-clause-cause
returns-in_err-acts-clause-cause g c clean =
    let fault = c.in_err-acts.field-0.0 in
    err_caused (state g.S.Store c.args.conn.now) (state g.S.Store c.judge_through_deadlines.new.conn) fault c.from_residual-in_err-acts.result c.from_residual-in_err-acts.ensures.1
    (fault_after (nothing_then c.read_names.ensures.writes_nothing c.judge_calendar.ensures.writes_nothing) c.judge_through_deadlines.ensures.writes_nothing clean fault (c.in_err-acts.ensures.cause clean))

pub returns-in_err-ends-clause-cause : goal.returns-in_err-ends-clause-cause
returns-in_err-ends-clause-cause g c clean =
    let fault = c.in_err-ends.field-0.0 in
    err_caused (state g.S.Store c.args.conn.now) (state g.S.Store c.judge_acts.new.conn) fault c.from_residual-in_err-ends.result c.from_residual-in_err-ends.ensures.1
    (fault_after (nothing_then (nothing_then c.read_names.ensures.writes_nothing c.judge_calendar.ensures.writes_nothing) c.judge_through_deadlines.ensures.writes_nothing) c.judge_acts.ensures.writes_nothing clean fault (c.in_err-ends.ensures.cause clean))

pub returns-in_err-ends-2-clause-cause : goal.returns-in_err-ends-2-clause-cause
returns-in_err-ends-2-clause-cause g c clean =
    let fault = c.in_err-ends-2.field-0.0 in
    err_caused (state g.S.Store c.args.conn.now) (state g.S.Store c.judge_receipts.new.conn) fault c.from_residual-in_err-ends-2.result c.from_residual-in_err-ends-2.ensures.1
    (fault_after (nothing_then (nothing_then (nothing_then c.read_names.ensures.writes_nothing c.judge_calendar.ensures.writes_nothing) c.judge_through_deadlines.ensures.writes_nothing) c.judge_acts.ensures.writes_nothing) c.judge_receipts.ensures.writes_nothing clean fault (c.in_err-ends-2.ensures.cause clean))

pub returns-in_err-last-clause-cause : goal.returns-in_err-last-clause-cause
returns-in_err-last-clause-cause g c clean =
    let fault = c.in_err-last.field-0.0 in
    err_caused (state g.S.Store c.args.conn.now) (state g.S.Store c.judge_due.new.conn) fault c.from_residual-in_err-last.result c.from_residual-in_err-last.ensures.1
    (fault_after (nothing_then (nothing_then (nothing_then (nothing_then c.read_names.ensures.writes_nothing c.judge_calendar.ensures.writes_nothing) c.judge_through_deadlines.ensures.writes_nothing) c.judge_acts.ensures.writes_nothing) c.judge_receipts.ensures.writes_nothing) c.judge_due.ensures.writes_nothing clean fault (c.in_err-last.ensures.cause clean))

pub returns-clause-cause : goal.returns-clause-cause
returns-clause-cause g c clean =
    result_after (nothing_then (nothing_then (nothing_then (nothing_then (nothing_then c.read_names.ensures.writes_nothing c.judge_calendar.ensures.writes_nothing) c.judge_through_deadlines.ensures.writes_nothing) c.judge_acts.ensures.writes_nothing) c.judge_receipts.ensures.writes_nothing) c.judge_due.ensures.writes_nothing) c.judge_more.ensures.writes_nothing clean c.judge_more.result (c.judge_more.ensures.cause clean)
