use Rattle.std.proofs.Common.{ℕ, Err, subst, arith}
use Rattle.sqlite.specs.Held.{state}
use Rattle.docket_calendar.specs.Telling.{Stays, Tells}
use Rattle.docket_calendar.specs.declared.stop.Stop.{Stop}
use Rattle.docket_tables.proofs.NothingLemmas.{nothing_then}
use Rattle.docket_applying.specs.Applying.{docket_rows}
use Rattle.docket_applying.proofs.AskLemmas.{asks_failed}
use Rattle.docket_applying.proofs.ListingLemmas.{history_of}
use Rattle.docket_calendar.specs.Stops.{IsCausedStop}
use Rattle.docket_applying.proofs.FailureLemmas.{blamed_caused}
use Rattle.docket_applying.proofs.listing.list_by.Goals as goal

pub returns-in-Ok-clause-lists : goal.returns-in-Ok-clause-lists
returns-in-Ok-clause-lists g c kept h stands entered =
    let told = c.in-Ok.ensures.tells h (history_of c.args.court.now h stands.docket) stands.rows (λ clean. entered (omega (arith, c.calendar.ensures.writes_nothing.clean))) in
    (record { docket = stands.docket; serves = stands.serves; rows = told.0; calendar = λ clean. stands.calendar (omega (arith, c.calendar.ensures.writes_nothing.clean)) }, told.1)

pub returns-in-Err-NotBegun-clause-lists : goal.returns-in-Err-NotBegun-clause-lists
returns-in-Err-NotBegun-clause-lists g c kept h stands entered =
    let court = c.args.court.now in
    let new = c.calendar.new.conn in
    let writer = c.calendar.new.writer in
    let told = subst (λ (stop : Stop). Tells g.S.Store court h c.args.from c.args.to c.args.front.now (g.W.Write.contents c.args.writer.now) (g.W.Write.contents writer) new (Err stop)) c.in-Err-NotBegun.field-0-is
    (c.in-Err-NotBegun.ensures.tells h (history_of court h stands.docket) stands.rows (λ clean. entered (omega (arith, c.calendar.ensures.writes_nothing.clean)))) in (
      asks_failed g.S.Store {X = ℕ} c.read_fault.new.conn court kept h (λ (lines : ℕ). ⊥) c.read_fault.result stands.docket
          (λ clean. stands.calendar (omega (arith, c.calendar.ensures.writes_nothing.clean, c.read_fault.ensures.writes_nothing.clean)))
          (c.read_fault.ensures.left (docket_rows court h) (docket_rows court h) told.0),
      λ clean. told.1 (omega (arith, c.read_fault.ensures.writes_nothing.clean, clean)),
    )

pub returns-in-Err-Broken-clause-lists : goal.returns-in-Err-Broken-clause-lists
returns-in-Err-Broken-clause-lists g c kept h stands entered =
    let court = c.args.court.now in
    let new = c.calendar.new.conn in
    let writer = c.calendar.new.writer in
    let read = c.read_fault-in-Err-Broken in
    let told = subst (λ (stop : Stop). Tells g.S.Store court h c.args.from c.args.to c.args.front.now (g.W.Write.contents c.args.writer.now) (g.W.Write.contents writer) new (Err stop)) c.in-Err-Broken.field-0-is
    (c.in-Err-Broken.ensures.tells h (history_of court h stands.docket) stands.rows (λ clean. entered (omega (arith, c.calendar.ensures.writes_nothing.clean)))) in (
      asks_failed g.S.Store {X = ℕ} read.new.conn court kept h (λ (lines : ℕ). ⊥) read.result stands.docket
          (λ clean. stands.calendar (omega (arith, c.calendar.ensures.writes_nothing.clean, read.ensures.writes_nothing.clean)))
          (read.ensures.left (docket_rows court h) (docket_rows court h) told.0),
      λ clean. told.1 (omega (arith, read.ensures.writes_nothing.clean, clean)),
    )

pub returns-in-Err-WriteFailed-clause-lists : goal.returns-in-Err-WriteFailed-clause-lists
returns-in-Err-WriteFailed-clause-lists g c kept h stands entered =
    let court = c.args.court.now in
    let told = subst (λ (stop : Stop). Tells g.S.Store court h c.args.from c.args.to c.args.front.now (g.W.Write.contents c.args.writer.now) (g.W.Write.contents c.calendar.new.writer) c.calendar.new.conn (Err stop)) c.in-Err-WriteFailed.field-0-is
    (c.in-Err-WriteFailed.ensures.tells h (history_of court h stands.docket) stands.rows (λ clean. entered (omega (arith, c.calendar.ensures.writes_nothing.clean)))) in
    (record { docket = stands.docket; serves = stands.serves; rows = told.0; calendar = λ clean. stands.calendar (omega (arith, c.calendar.ensures.writes_nothing.clean)) }, told.1)

pub returns-in-Err-NotBegun-clause-stays : goal.returns-in-Err-NotBegun-clause-stays
returns-in-Err-NotBegun-clause-stays g c rows holds =
    c.read_fault.ensures.stays rows (subst (λ (stop : Stop). Stays g.S.Store c.calendar.new.conn rows (Err stop)) c.in-Err-NotBegun.field-0-is (c.in-Err-NotBegun.ensures.stays rows holds))

pub returns-in-Err-Broken-clause-stays : goal.returns-in-Err-Broken-clause-stays
returns-in-Err-Broken-clause-stays g c rows holds =
    c.read_fault-in-Err-Broken.ensures.stays rows (subst (λ (stop : Stop). Stays g.S.Store c.calendar.new.conn rows (Err stop)) c.in-Err-Broken.field-0-is (c.in-Err-Broken.ensures.stays rows holds))

pub returns-in-Err-WriteFailed-clause-stays : goal.returns-in-Err-WriteFailed-clause-stays
returns-in-Err-WriteFailed-clause-stays g c rows holds = subst (λ (stop : Stop). Stays g.S.Store c.calendar.new.conn rows (Err stop)) c.in-Err-WriteFailed.field-0-is (c.in-Err-WriteFailed.ensures.stays rows holds)

pub returns-in-Err-NotBegun-clause-cause : goal.returns-in-Err-NotBegun-clause-cause
returns-in-Err-NotBegun-clause-cause g c rows holds clean =
    let old = state g.S.Store c.args.conn.now in
    let mid = state g.S.Store c.calendar.new.conn in
    let read = c.read_fault in
    let cause = c.in-Err-NotBegun.ensures.cause rows holds (omega (arith, read.ensures.writes_nothing.clean, clean)) in
    blamed_caused old mid (state g.S.Store read.new.conn) c.in-Err-NotBegun.fault read.new.failure read.result read.ensures.writes_nothing.counts read.ensures.blames
    (subst (λ (stop : Stop). IsCausedStop old mid stop) c.in-Err-NotBegun.field-0-is cause)

pub returns-in-Err-Broken-clause-cause : goal.returns-in-Err-Broken-clause-cause
returns-in-Err-Broken-clause-cause g c rows holds clean =
    let old = state g.S.Store c.args.conn.now in
    let mid = state g.S.Store c.calendar.new.conn in
    let read = c.read_fault-in-Err-Broken in
    let cause = c.in-Err-Broken.ensures.cause rows holds (omega (arith, read.ensures.writes_nothing.clean, clean)) in
    blamed_caused old mid (state g.S.Store read.new.conn) c.in-Err-Broken.fault read.new.failure read.result read.ensures.writes_nothing.counts read.ensures.blames
    (subst (λ (stop : Stop). IsCausedStop old mid stop) c.in-Err-Broken.field-0-is cause)

pub returns-in-Err-NotBegun-clause-writes_nothing : goal.returns-in-Err-NotBegun-clause-writes_nothing
returns-in-Err-NotBegun-clause-writes_nothing g c = nothing_then c.calendar.ensures.writes_nothing c.read_fault.ensures.writes_nothing

pub returns-in-Err-Broken-clause-writes_nothing : goal.returns-in-Err-Broken-clause-writes_nothing
returns-in-Err-Broken-clause-writes_nothing g c = nothing_then c.calendar.ensures.writes_nothing c.read_fault-in-Err-Broken.ensures.writes_nothing
