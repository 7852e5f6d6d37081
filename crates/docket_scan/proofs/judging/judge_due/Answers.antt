use Rattle.std.proofs.Common.{◌≡◌, ◌∙◌, ap, arith, inr, sym}
use Rattle.std.proofs.lemmas.Bool.{false≢true}
use Rattle.sqlite.specs.Held.{state}
use Rattle.sqlite.specs.State.{HasCleanDisk}
use Rattle.sqlite.proofs.Callers.{unchanged_then}
use Rattle.docket_columns.specs.Cells.{end_cells}
use Rattle.docket_columns.specs.Fits.{IsEndRow}
use Rattle.docket_sound.specs.Dues.{HasTakenDues}
use Rattle.docket_tables.specs.declared.table.Table.TheVariants as table
use Rattle.docket_scan.specs.Judging.{Holds, before}
use Rattle.docket_scan.specs.Reading.{FailsOver}
use Rattle.docket_scan.specs.Records.{AreEndRows}
use Rattle.docket_scan.specs.Scans.{OfSoMany}
use Rattle.docket_scan.specs.Taken.{IsRead, ends_expected}
use Rattle.docket_scan.proofs.CauseLemmas.{err_caused}
use Rattle.docket_scan.proofs.JudgingLemmas.{all_more, each_has, failed, handed, read_rows, sound_before}
use Rattle.docket_scan.proofs.RecordLemmas.{all_read}
use Rattle.docket_scan.proofs.judging.judge_due.Goals as goal

pub returns-in_err-check-clause-err : goal.returns-in_err-check-clause-err
returns-in_err-check-clause-err g c v first court next prior =
    let start = state g.S.Store first in
    let old = state g.S.Store c.args.conn.now in
    let new = state g.S.Store c.judge_table.new.conn in
    let fault = c.in_err-check.field-0.0 in
    handed c.from_residual.result fault (FailsOver v start court next new) c.from_residual.ensures.1
    (λ clean.
    let early : HasCleanDisk old = omega (arith, clean, c.judge_table.ensures.writes_nothing.clean) in
    let was = prior early in
    let made = c.new.ensures in
    let begun : ends_expected c.new.result ≡ c.args.read.ends.items = ap (λ l. l.items) made.expected in
    let told = rw c.in_err-check.was at (c.judge_table.ensures.told clean made.none) in
    failed start old was.same v table.Due (each_has v table.Due tt) court next new was.rows (AreEndRows (ends_expected c.new.result)) fault (ap AreEndRows (begun ∙ was.said.ends)) was.named was.sound told)

pub returns-then-is_sound-clause-ok : goal.returns-then-is_sound-clause-ok
returns-then-is_sound-clause-ok g c v first court next prior clean =
    let start = state g.S.Store first in
    let old = state g.S.Store c.args.conn.now in
    let new = state g.S.Store c.judge_table.new.conn in
    let early : HasCleanDisk old = omega (arith, clean, c.judge_table.ensures.writes_nothing.clean) in
    let was = prior early in
    let made = c.new.ensures in
    let begun : ends_expected c.new.result ≡ c.args.read.ends.items = ap (λ l. l.items) made.expected in
    let given = c.in_ok-check.ensures.context ∙ begun ∙ was.said.ends in
    let told = rw c.in_ok-check.was at (c.judge_table.ensures.told clean made.none) in
    let taken = HasTakenDues c.in_ok-check.check in
    let held = sound_before start old was.same table.Due (OfSoMany c.in_ok-check.field-0-1 (IsRead IsEndRow end_cells taken)) told.1 in
    let read = held.3.1 in
    let same = (c.is_sound.ensures read.records read.taken).0 c.if-is_sound.true ∙ given in
    let rows = record was.rows { ends = read.records } in
    record {
      same = unchanged_then start old new was.same told.0;
      rows = rows;
      named = was.named;
      sound = all_more (Holds v start court next rows) (before table.Due) table.Due was.sound
          (read_rows table.Due start IsEndRow end_cells taken c.in_ok-check.field-0-1 held (λ records. records ≡ _) same);
      said = record { short_days = was.said.short_days; unread = was.said.unread; held = was.said.held };
    }

pub returns-else-is_sound-clause-err : goal.returns-else-is_sound-clause-err
returns-else-is_sound-clause-err g c v first court next prior clean =
    let start = state g.S.Store first in
    let old = state g.S.Store c.args.conn.now in
    let new = state g.S.Store c.judge_table.new.conn in
    let early : HasCleanDisk old = omega (arith, clean, c.judge_table.ensures.writes_nothing.clean) in
    let was = prior early in
    let made = c.new.ensures in
    let begun : ends_expected c.new.result ≡ c.args.read.ends.items = ap (λ l. l.items) made.expected in
    let given = c.in_ok-check.ensures.context ∙ begun ∙ was.said.ends in
    let told = rw c.in_ok-check.was at (c.judge_table.ensures.told clean made.none) in
    let taken = HasTakenDues c.in_ok-check.check in
    let held = sound_before start old was.same table.Due (OfSoMany c.in_ok-check.field-0-1 (IsRead IsEndRow end_cells taken)) told.1 in
    let read = held.3.1 in
    let exact = c.is_sound.ensures read.records read.taken in (
      each_has v table.Due tt,
      λ opened. unchanged_then start old new was.same told.0,
      was.rows,
      was.named,
      was.sound,
      inr (inr (inr (
        held.1,
        held.2,
        λ whole. false≢true (sym c.if-is_sound.false ∙ exact.1 (all_read IsEndRow end_cells taken (λ records. records ≡ _) held.1 read whole ∙ sym given)),
      ))),
    )

pub returns-in_err-check-clause-cause : goal.returns-in_err-check-clause-cause
returns-in_err-check-clause-cause g c clean =
    let old = state g.S.Store c.args.conn.now in
    let new = state g.S.Store c.judge_table.new.conn in
    err_caused old new c.in_err-check.field-0.0 c.from_residual.result c.from_residual.ensures.1 (c.in_err-check.ensures.cause clean)
