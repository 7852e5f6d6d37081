use Rattle.std.proofs.Common.{refl}
use Rattle.docket_tables.proofs.ChangeCauses.{caused_within, fault_read, reading_told}
use Rattle.std.proofs.Common.{◌∙◌, arith}
use Rattle.sqlite.specs.Held.{state}
use Rattle.sqlite.specs.State.{HasCleanDisk}
use Rattle.docket_tables.specs.Contents.{rows_with}
use Rattle.docket_tables.proofs.AnyLemmas.{still_read}
use Rattle.docket_tables.proofs.InsideLemmas.{failed_after, inside_with, read_inside, stays_after}
use Rattle.docket_tables.proofs.TwoTables.{days_shown, short_days_shown}
use Rattle.docket_tables.proofs.inside.calendar.Goals as goal

pub returns-in_err-rows-clause-inside : goal.returns-in_err-rows-clause-inside
returns-in_err-rows-clause-inside g c court t ends orderly =
    let rows = rows_with court t ends in
    failed_after (state g.S.Store c.args.tx.now.conn.now) (state g.S.Store c.ask_inside.new.tx.conn.now) rows rows c.from_residual.result _ (λ sees. c.ask_inside.ensures.inside rows sees) c.from_residual.ensures.0

pub returns-in_err-short_rows-clause-inside : goal.returns-in_err-short_rows-clause-inside
returns-in_err-short_rows-clause-inside g c court t ends orderly =
    let old = state g.S.Store c.args.tx.now.conn.now in
    let mid = state g.S.Store c.ask_inside.new.tx.conn.now in
    let new = state g.S.Store c.ask_inside-2.new.tx.conn.now in
    let rows = rows_with court t ends in
    let before : HasCleanDisk mid → HasCleanDisk old = λ clean. omega (arith, c.ask_inside.ensures.clean) in
    failed_after old new rows rows c.from_residual-in_err-short_rows.result _
    (stays_after old mid new rows rows _ (λ sees. (c.in_ok-rows.ensures.inside rows sees, λ clean. c.in_ok-rows.ensures.ok clean rows (sees (before clean)))) (λ sees. c.ask_inside-2.ensures.inside rows sees))
    c.from_residual-in_err-short_rows.ensures.0

pub returns-clause-inside : goal.returns-clause-inside
returns-clause-inside g c court t ends orderly =
    let old = state g.S.Store c.args.tx.now.conn.now in
    let mid = state g.S.Store c.ask_inside.new.tx.conn.now in
    let new = state g.S.Store c.ask_inside-2.new.tx.conn.now in
    let rows = rows_with court t ends in
    let before : HasCleanDisk mid → HasCleanDisk old = λ clean. omega (arith, c.ask_inside.ensures.clean) in
    inside_with old mid new rows rows rows _ c.calendar_in.result _ (λ sees. (c.in_ok-rows.ensures.inside rows sees, λ clean. c.in_ok-rows.ensures.ok clean rows (sees (before clean))))
    (λ sees. c.in_ok-short_rows.ensures.inside rows sees)
    (λ clean asked sees.
    let next = c.in_ok-short_rows.ensures.ok clean rows sees in
    let days = days_shown t.calendar c.in_ok-rows.rows.items orderly.calendar_rises asked in
    let short_days = short_days_shown t.calendar c.in_ok-short_rows.short_rows.items orderly.calendar_rises next.1 in
    read_inside c.calendar_in.result _ _
    (c.calendar_in.ensures.read t.calendar orderly.calendar orderly.short_days orderly.calendar_rises (c.as_slice.ensures.value ∙ days) (c.as_slice-2.ensures.value ∙ short_days)) next.0)

pub returns-in_err-rows-clause-still : goal.returns-in_err-rows-clause-still
returns-in_err-rows-clause-still g c rows =
    failed_after (state g.S.Store c.args.tx.now.conn.now) (state g.S.Store c.ask_inside.new.tx.conn.now) rows rows c.from_residual.result _ (λ sees. c.ask_inside.ensures.inside rows sees) c.from_residual.ensures.0

pub returns-in_err-short_rows-clause-still : goal.returns-in_err-short_rows-clause-still
returns-in_err-short_rows-clause-still g c rows =
    let old = state g.S.Store c.args.tx.now.conn.now in
    let mid = state g.S.Store c.ask_inside.new.tx.conn.now in
    let new = state g.S.Store c.ask_inside-2.new.tx.conn.now in
    let before : HasCleanDisk mid → HasCleanDisk old = λ clean. omega (arith, c.ask_inside.ensures.clean) in
    failed_after old new rows rows c.from_residual-in_err-short_rows.result _
    (stays_after old mid new rows rows _ (λ sees. (c.in_ok-rows.ensures.inside rows sees, λ clean. c.in_ok-rows.ensures.ok clean rows (sees (before clean)))) (λ sees. c.ask_inside-2.ensures.inside rows sees))
    c.from_residual-in_err-short_rows.ensures.0

pub returns-clause-still : goal.returns-clause-still
returns-clause-still g c rows =
    let old = state g.S.Store c.args.tx.now.conn.now in
    let mid = state g.S.Store c.ask_inside.new.tx.conn.now in
    let new = state g.S.Store c.ask_inside-2.new.tx.conn.now in
    let before : HasCleanDisk mid → HasCleanDisk old = λ clean. omega (arith, c.ask_inside.ensures.clean) in
    inside_with old mid new rows rows rows _ c.calendar_in.result _ (λ sees. (c.in_ok-rows.ensures.inside rows sees, λ clean. c.in_ok-rows.ensures.ok clean rows (sees (before clean))))
    (λ sees. c.in_ok-short_rows.ensures.inside rows sees)
    (λ clean asked sees. still_read c.calendar_in.result _ (c.in_ok-short_rows.ensures.ok clean rows sees).0)

pub returns-in_err-rows-clause-cause : goal.returns-in_err-rows-clause-cause
returns-in_err-rows-clause-cause g c clean court t ends orderly sees =
    reading_told (state g.S.Store c.args.tx.now.conn.now) (state g.S.Store c.ask_inside.new.tx.conn.now) c.in_err-rows.field-0.0 c.from_residual.result c.from_residual.ensures.1
    (c.in_err-rows.ensures.cause clean (rows_with court t ends) sees refl)

pub returns-in_err-short_rows-clause-cause : goal.returns-in_err-short_rows-clause-cause
returns-in_err-short_rows-clause-cause g c clean court t ends orderly sees =
    let old = state g.S.Store c.args.tx.now.conn.now in
    let mid = state g.S.Store c.ask_inside.new.tx.conn.now in
    let new = state g.S.Store c.ask_inside-2.new.tx.conn.now in
    let rows = rows_with court t ends in
    let between : HasCleanDisk mid = omega (arith, clean, c.ask_inside-2.ensures.clean) in
    let asked = c.in_ok-rows.ensures.ok between rows sees in
    let survives = (c.in_ok-rows.ensures.inside rows (λ _. sees)).survives in
    let e = c.in_err-short_rows.field-0.0 in
    reading_told old new e c.from_residual-in_err-short_rows.result c.from_residual-in_err-short_rows.ensures.1
    (caused_within old mid new new e survives.counts (omega arith) survives.limit (c.in_err-short_rows.ensures.cause clean rows asked.0 refl))

pub returns-clause-cause : goal.returns-clause-cause
returns-clause-cause g c clean court t ends orderly sees =
    let old = state g.S.Store c.args.tx.now.conn.now in
    let mid = state g.S.Store c.ask_inside.new.tx.conn.now in
    let new = state g.S.Store c.ask_inside-2.new.tx.conn.now in
    let rows = rows_with court t ends in
    let between : HasCleanDisk mid = omega (arith, clean, c.ask_inside-2.ensures.clean) in
    let asked = c.in_ok-rows.ensures.ok between rows sees in
    let next = c.in_ok-short_rows.ensures.ok clean rows asked.0 in
    let days = days_shown t.calendar c.in_ok-rows.rows.items orderly.calendar_rises asked.1 in
    let short_days = short_days_shown t.calendar c.in_ok-short_rows.short_rows.items orderly.calendar_rises next.1 in
    fault_read old new _ c.calendar_in.result (c.calendar_in.ensures.read t.calendar orderly.calendar orderly.short_days orderly.calendar_rises (c.as_slice.ensures.value ∙ days) (c.as_slice-2.ensures.value ∙ short_days))
