use Rattle.std.proofs.Common.{◌∙◌, ap, arith, length, map, subst}
use Rattle.sqlite.specs.Held.{state}
use Rattle.sqlite.specs.State.{HasCleanDisk}
use Rattle.sqlite.proofs.Callers.{unchanged_then}
use Rattle.docket_columns.specs.Cells.{party_cells}
use Rattle.docket_columns.specs.Fits.{IsPartyRow}
use Rattle.docket_sound.specs.Deadlines.{parties_of}
use Rattle.docket_sound.specs.Parties.{AreSoundParties, HasTakenParties, parties_checked, party_key}
use Rattle.docket_tables.specs.declared.table.Table.TheVariants as table
use Rattle.docket_scan.specs.Judging.{Holds, before}
use Rattle.docket_scan.specs.Reading.{FailsOver}
use Rattle.docket_scan.specs.Records.{ArePartyRows}
use Rattle.docket_scan.specs.Scans.{OfSoMany}
use Rattle.docket_scan.specs.Taken.{IsRead}
use Rattle.docket_scan.proofs.CauseLemmas.{err_caused}
use Rattle.docket_scan.proofs.JudgingLemmas.{all_more, each_has, failed, handed, read_rows, so_many, sound_before}
use Rattle.docket_scan.proofs.CountLemmas.{parties_counted}
use Rattle.docket_scan.proofs.judging.judge_parties.Goals as goal

pub returns-in_err-check-2-clause-err : goal.returns-in_err-check-2-clause-err
returns-in_err-check-2-clause-err g c v first court next prior =
    let start = state g.S.Store first in
    let old = state g.S.Store c.args.conn.now in
    let new = state g.S.Store c.judge_table.new.conn in
    let fault = c.in_err-check-2.field-0.0 in
    handed c.from_residual-in_err-check-2.result fault (FailsOver v start court next new) c.from_residual-in_err-check-2.ensures.1
    (λ clean.
    let early : HasCleanDisk old = omega (arith, clean, c.judge_table.ensures.writes_nothing.clean) in
    let was = prior early in
    let told = rw c.in_err-check-2.was at (c.judge_table.ensures.told clean c.in_ok-check.ensures.none) in
    failed start old was.same v table.Parties (each_has v table.Parties tt) court next new was.rows (ArePartyRows (parties_checked c.in_ok-check.check)) fault (ap ArePartyRows (c.in_ok-check.ensures.cases ∙ was.said.cases)) was.named was.sound told)

pub returns-clause-ok : goal.returns-clause-ok
returns-clause-ok g c v first court next prior clean =
    let start = state g.S.Store first in
    let old = state g.S.Store c.args.conn.now in
    let new = state g.S.Store c.judge_table.new.conn in
    let early : HasCleanDisk old = omega (arith, clean, c.judge_table.ensures.writes_nothing.clean) in
    let was = prior early in
    let told = rw c.in_ok-check-2.was at (c.judge_table.ensures.told clean c.in_ok-check.ensures.none) in
    let taken = HasTakenParties c.in_ok-check-2.check in
    let held = sound_before start old was.same table.Parties (OfSoMany c.in_ok-check-2.count (IsRead IsPartyRow party_cells taken)) told.1 in
    let read = held.3.1 in
    let count = so_many table.Parties start IsPartyRow party_cells taken c.in_ok-check-2.count held in
    let given = c.in_ok-check-2.ensures.context ∙ c.in_ok-check.ensures.cases ∙ was.said.cases in
    let rows = record was.rows { parties = read.records } in
    record {
      same = unchanged_then start old new was.same told.0;
      rows = rows;
      named = was.named;
      sound = all_more (Holds v start court next rows) (before table.Parties) table.Parties was.sound (read_rows table.Parties start IsPartyRow party_cells taken c.in_ok-check-2.count held (AreSoundParties (length was.rows.cases)) (subst (λ n. AreSoundParties n read.records) given read.taken.sound));
      said = record {
        court = was.said.court;
        calendar = was.said.calendar;
        short_days = was.said.short_days;
        unread = was.said.unread;
        names = was.said.names;
        cases = was.said.cases;
        parties = ap parties_of c.counts.ensures ∙ parties_counted c.in_ok-check-2.check.numbering (map party_key read.records) read.taken.numbered;
        held = λ i. record (was.said.held i) { parties = count i };
      };
    }

pub returns-in_err-check-2-clause-cause : goal.returns-in_err-check-2-clause-cause
returns-in_err-check-2-clause-cause g c clean =
    let old = state g.S.Store c.args.conn.now in
    let new = state g.S.Store c.judge_table.new.conn in
    err_caused old new c.in_err-check-2.field-0.0 c.from_residual-in_err-check-2.result c.from_residual-in_err-check-2.ensures.1 (c.in_err-check-2.ensures.cause clean)
