use Rattle.std.proofs.Common.{◌≡◌, arith, refl}
use Rattle.sqlite.specs.Held.{state}
use Rattle.sqlite.specs.State.{HasCleanDisk}
use Rattle.sqlite.proofs.Callers.{unchanged_then}
use Rattle.docket_columns.specs.Cells.{local_rule_cells}
use Rattle.docket_columns.specs.Fits.{IsLocalRuleRow}
use Rattle.docket_columns.specs.declared.version.Version.TheVariants.{Second}
use Rattle.docket_sound.specs.LocalRules.{AreSoundLocalRules, HasTakenLocalRules}
use Rattle.docket_tables.specs.declared.table.Table.TheVariants as table
use Rattle.docket_scan.specs.Holdings.{holdings_of}
use Rattle.docket_scan.specs.Judging.{Holds, before}
use Rattle.docket_scan.specs.Records.{AreLocalRuleRows}
use Rattle.docket_scan.specs.Scans.{OfSoMany}
use Rattle.docket_scan.specs.Taken.{IsRead}
use Rattle.docket_scan.proofs.CauseLemmas.{err_caused}
use Rattle.docket_scan.proofs.JudgingLemmas.{all_more, failed, read_rows, so_many, sound_before, told_of}
use Rattle.docket_scan.proofs.judging.judge_local_rules.Goals as goal

pub returns-in_err-count-clause-told : goal.returns-in_err-count-clause-told
returns-in_err-count-clause-told g c first court next prior clean =
    let start = state g.S.Store first in
    let old = state g.S.Store c.args.conn.now in
    let new = state g.S.Store c.judge_table.new.conn in
    let early : HasCleanDisk old = omega (arith, clean, c.judge_table.ensures.writes_nothing.clean) in
    let was = prior early in
    let told = rw c.in_err-count.was at (c.judge_table.ensures.told clean c.new-check.ensures) in
    let fault = c.in_err-count.field-0.0 in
    told_of Second court next start new (λ r held. held ≡ holdings_of court r) c.from_residual.result fault c.from_residual.ensures.1
    (failed start old was.same Second table.LocalRules tt court next new was.rows AreLocalRuleRows fault refl was.named was.sound told)

pub returns-clause-told : goal.returns-clause-told
returns-clause-told g c first court next prior clean =
    let start = state g.S.Store first in
    let old = state g.S.Store c.args.conn.now in
    let new = state g.S.Store c.judge_table.new.conn in
    let early : HasCleanDisk old = omega (arith, clean, c.judge_table.ensures.writes_nothing.clean) in
    let was = prior early in
    let told = rw c.in_ok-count.was at (c.judge_table.ensures.told clean c.new-check.ensures) in
    let taken = HasTakenLocalRules c.in_ok-count.field-0-0 in
    let held = sound_before start old was.same table.LocalRules (OfSoMany c.in_ok-count.count (IsRead IsLocalRuleRow local_rule_cells taken)) told.1 in
    let read = held.3.1 in
    let count = so_many table.LocalRules start IsLocalRuleRow local_rule_cells taken c.in_ok-count.count held in
    let rows = record was.rows { local_rules = read.records } in (
      unchanged_then start old new was.same told.0,
      rows,
      tt,
      was.named,
      all_more (Holds Second start court next rows) (before table.LocalRules) table.LocalRules was.sound
          (read_rows table.LocalRules start IsLocalRuleRow local_rule_cells taken c.in_ok-count.count held AreSoundLocalRules read.taken.sound),
      λ i. record (was.said i) { local_rules = count i },
    )

pub returns-in_err-count-clause-cause : goal.returns-in_err-count-clause-cause
returns-in_err-count-clause-cause g c clean =
    let old = state g.S.Store c.args.conn.now in
    let new = state g.S.Store c.judge_table.new.conn in
    err_caused old new c.in_err-count.field-0.0 c.from_residual.result c.from_residual.ensures.1 (c.in_err-count.ensures.cause clean)
