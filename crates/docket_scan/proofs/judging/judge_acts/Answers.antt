use Rattle.std.proofs.Common.{◌∙◌, ap, arith, inl, map, refl}
use Rattle.std.proofs.lemmas.Bool.{false≢true}
use Rattle.sqlite.specs.Held.{state}
use Rattle.sqlite.specs.State.{HasCleanDisk}
use Rattle.sqlite.proofs.Callers.{unchanged_then}
use Rattle.docket_columns.specs.Cells.{act_cells}
use Rattle.docket_columns.specs.Fits.{IsActRow}
use Rattle.docket_sound.specs.Acts.{HasTakenActs}
use Rattle.docket_sound.specs.Counted.{cases_of, counts_of}
use Rattle.docket_sound.specs.Deadlines.{deadline_key}
use Rattle.docket_tables.specs.declared.table.Table.TheVariants as table
use Rattle.docket_scan.specs.Reading.{FailsOver}
use Rattle.docket_scan.specs.Records.{AreActRows}
use Rattle.docket_scan.specs.Scans.{OfSoMany}
use Rattle.docket_scan.specs.Taken.{ActContext, IsRead}
use Rattle.docket_scan.specs.declared.fault.AdoptFault.TheVariants.{NoMemory}
use Rattle.docket_scan.proofs.ActLemmas.{acts_refused, acts_told, begun}
use Rattle.docket_scan.proofs.CauseLemmas.{err_caused}
use Rattle.docket_scan.proofs.JudgingLemmas.{each_has, failed, handed, sound_before}
use Rattle.docket_scan.proofs.judging.judge_acts.Goals as goal

pub returns-in_err-check-2-clause-err : goal.returns-in_err-check-2-clause-err
returns-in_err-check-2-clause-err g c v first court next prior =
    let start = state g.S.Store first in
    let old = state g.S.Store c.args.conn.now in
    let new = state g.S.Store c.judge_table.new.conn in
    let made = c.in_ok-check.ensures in
    let check = c.in_ok-check.check in
    let fault = c.in_err-check-2.field-0.0 in
    handed c.from_residual-in_err-check-2.result fault (FailsOver v start court next new) c.from_residual-in_err-check-2.ensures.1
    (λ clean.
    let early : HasCleanDisk old = omega (arith, clean, c.judge_table.ensures.writes_nothing.clean) in
    let was = prior early in
    let context = begun court was.rows c.args.read check next was.said made.court made.deadlines made.calendar in
    let told = rw c.in_err-check-2.was at (c.judge_table.ensures.told clean (made.none (map deadline_key was.rows.deadlines) was.said.deadlines)) in
    failed start old was.same v table.Acts (each_has v table.Acts tt) court next new was.rows (AreActRows check.court (cases_of check.deadlines) (counts_of check.deadlines)) fault
    (ap (λ (k : ActContext). AreActRows k.0 k.1 k.2) context) was.named was.sound told)

pub returns-in_err-ends-clause-err : goal.returns-in_err-ends-clause-err
returns-in_err-ends-clause-err g c v first court next prior =
    let start = state g.S.Store first in
    let old = state g.S.Store c.args.conn.now in
    let new = state g.S.Store c.judge_table.new.conn in
    handed c.from_residual-in_err-ends.result NoMemory (FailsOver v start court next new) c.from_residual-in_err-ends.ensures.1
    (λ clean.
    let early : HasCleanDisk old = omega (arith, clean, c.judge_table.ensures.writes_nothing.clean) in
    let was = prior early in
    let told = rw c.in_ok-check-2.was at (c.judge_table.ensures.told clean (c.in_ok-check.ensures.none (map deadline_key was.rows.deadlines) was.said.deadlines)) in
    inl (unchanged_then start old new was.same told.0))

pub returns-in-Some-clause-ok : goal.returns-in-Some-clause-ok
returns-in-Some-clause-ok g c v first court next prior clean =
    let start = state g.S.Store first in
    let old = state g.S.Store c.args.conn.now in
    let new = state g.S.Store c.judge_table.new.conn in
    let early : HasCleanDisk old = omega (arith, clean, c.judge_table.ensures.writes_nothing.clean) in
    let was = prior early in
    let made = c.in_ok-check.ensures in
    let context = c.in_ok-check-2.ensures.context ∙ begun court was.rows c.args.read c.in_ok-check.check next was.said made.court made.deadlines made.calendar in
    let told = rw c.in_ok-check-2.was at (c.judge_table.ensures.told clean (made.none (map deadline_key was.rows.deadlines) was.said.deadlines)) in
    let taken = IsRead IsActRow act_cells (HasTakenActs c.in_ok-check-2.check) in
    let held = sound_before start old was.same table.Acts (OfSoMany c.in_ok-check-2.field-0-1 taken) told.1 in
    let read = held.3.1 in
    acts_told v court next start old new c.args.read was c.in_ok-check-2.check c.in_ok-check-2.field-0-1 context told.0 held
    (record { ends = c.in-Some.ends; short_days = c.args.read.short_days; held = record c.args.read.held { standings = c.in-Some.standings } }) c.in-Some.standings refl refl c.in_ok-check-2.ensures.limit
    ((rw c.in-Some.is at (c.in_ok-ends.ensures.sound read.records read.taken)).0 refl)
    (rw c.in-Some.is at (c.in_ok-ends.ensures.ends read.records read.taken))
    (λ few. rw c.in-Some.is at (c.in_ok-ends.ensures.standings read.records read.taken few))

pub returns-in-None-clause-err : goal.returns-in-None-clause-err
returns-in-None-clause-err g c v first court next prior clean =
    let start = state g.S.Store first in
    let old = state g.S.Store c.args.conn.now in
    let new = state g.S.Store c.judge_table.new.conn in
    let early : HasCleanDisk old = omega (arith, clean, c.judge_table.ensures.writes_nothing.clean) in
    let was = prior early in
    let made = c.in_ok-check.ensures in
    let context = c.in_ok-check-2.ensures.context ∙ begun court was.rows c.args.read c.in_ok-check.check next was.said made.court made.deadlines made.calendar in
    let told = rw c.in_ok-check-2.was at (c.judge_table.ensures.told clean (made.none (map deadline_key was.rows.deadlines) was.said.deadlines)) in
    let taken = IsRead IsActRow act_cells (HasTakenActs c.in_ok-check-2.check) in
    let held = sound_before start old was.same table.Acts (OfSoMany c.in_ok-check-2.field-0-1 taken) told.1 in
    let read = held.3.1 in
    acts_refused v court next start old new c.args.read was c.in_ok-check-2.check c.in_ok-check-2.field-0-1 context told.0 held
    (λ sound. false≢true ((rw c.in-None.is at (c.in_ok-ends.ensures.sound read.records read.taken)).1 sound))

pub returns-in_err-check-2-clause-cause : goal.returns-in_err-check-2-clause-cause
returns-in_err-check-2-clause-cause g c clean =
    let old = state g.S.Store c.args.conn.now in
    let new = state g.S.Store c.judge_table.new.conn in
    err_caused old new c.in_err-check-2.field-0.0 c.from_residual-in_err-check-2.result c.from_residual-in_err-check-2.ensures.1 (c.in_err-check-2.ensures.cause clean)
