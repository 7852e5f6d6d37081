use Rattle.docket_applying.proofs.WritingCauses.{error_caused}
use Rattle.docket_tables.proofs.ZoneLengths.{zone_short}
use Rattle.docket_tables.proofs.ChangeCauses.{change_after, change_passed}
use Rattle.std.proofs.Common.{arith}
use Rattle.sqlite.specs.Held.{state}
use Rattle.sqlite.specs.State.{HasCleanDisk}
use Rattle.docket_decisions.specs.Tables.{Tables}
use Rattle.docket_tables.specs.AnyRows.{recorded, with_stored}
use Rattle.docket_tables.specs.Contents.{rows_with}
use Rattle.docket_tables.specs.Layouts.{Rows}
use Rattle.docket_tables.proofs.AnyLemmas.{recorded_stored}
use Rattle.docket_tables.proofs.ContentsLemmas.{sees_same}
use Rattle.docket_tables.proofs.InsideLemmas.{Went, Stays, failed_after, stays_after, went_after}
use Rattle.docket_applying.proofs.LeftEnds.{one_left}
use Rattle.docket_tables.specs.Changing.{with_changes}
use Rattle.docket_applying.proofs.writing.fill.Goals as goal

pub returns-in_err-change_with_receipt-clause-inside : goal.returns-in_err-change_with_receipt-clause-inside
returns-in_err-change_with_receipt-clause-inside g c t ends small may =
    failed_after (state g.S.Store c.args.tx.now.conn.now) (state g.S.Store c.change_with_receipt.new.tx.conn.now) (rows_with c.args.court.now t ends) _ c.from_residual.result _ (λ sees. c.change_with_receipt.ensures.inside) c.from_residual.ensures.0

pub returns-in-Ok-clause-inside : goal.returns-in-Ok-clause-inside
returns-in-Ok-clause-inside g c t ends small may =
    let court = c.args.court.now in
    let then : Tables = with_changes c.args.command.now c.args.changes.now t in
    let start = state g.S.Store c.args.tx.now.conn.now in
    let mid = state g.S.Store c.change_with_receipt.new.tx.conn.now in
    let new = state g.S.Store c.update_ends.new.tx.conn.now in
    let before : HasCleanDisk mid → HasCleanDisk start = λ clean. omega (arith, c.change_with_receipt.ensures.inside.survives.clean) in
    let recorded : Went start mid (rows_with court t ends) (rows_with court then ends) (Unit {0}) = λ sees. (c.change_with_receipt.ensures.inside, λ clean. (c.in_ok-change_with_receipt.ensures.ok clean court t ends small (sees (before clean)), tt)) in
    went_after start mid new (rows_with court t ends) (rows_with court then ends) _ (Unit {0}) (Unit {0}) (Unit {0}) recorded (c.in-Ok.ensures.inside then ends may) (λ a b. tt)

pub returns-in-Err-clause-inside : goal.returns-in-Err-clause-inside
returns-in-Err-clause-inside g c t ends small may =
    let court = c.args.court.now in
    let then : Tables = with_changes c.args.command.now c.args.changes.now t in
    let start = state g.S.Store c.args.tx.now.conn.now in
    let mid = state g.S.Store c.change_with_receipt.new.tx.conn.now in
    let new = state g.S.Store c.update_ends.new.tx.conn.now in
    let before : HasCleanDisk mid → HasCleanDisk start = λ clean. omega (arith, c.change_with_receipt.ensures.inside.survives.clean) in
    let recorded : Went start mid (rows_with court t ends) (rows_with court then ends) (Unit {0}) = λ sees. (c.change_with_receipt.ensures.inside, λ clean. (c.in_ok-change_with_receipt.ensures.ok clean court t ends small (sees (before clean)), tt)) in
    let stays : Stays start new (rows_with court t ends) = stays_after start mid new (rows_with court t ends) (rows_with court then ends) (Unit {0}) recorded (λ sees. (c.update_ends.ensures.inside then ends may sees).0) in
    λ sees. (stays sees, λ clean. tt)

pub returns-in_err-change_with_receipt-clause-any : goal.returns-in_err-change_with_receipt-clause-any
returns-in_err-change_with_receipt-clause-any g c n stored rows are small =
    let left = one_left c.args.changes.now.ends stored in (
      left.0,
      left.1,
      failed_after (state g.S.Store c.args.tx.now.conn.now) (state g.S.Store c.change_with_receipt.new.tx.conn.now) rows _ c.from_residual.result _ (λ sees. c.change_with_receipt.ensures.inside) c.from_residual.ensures.0,
    )

pub returns-in-Ok-clause-any : goal.returns-in-Ok-clause-any
returns-in-Ok-clause-any g c n stored rows are small =
    let court = c.args.court.now in
    let command = c.args.command.now in
    let reply = c.args.changes.now.reply in
    let changes = c.args.changes.now.rows.items in
    let then : Rows = recorded court n command reply changes rows in
    let start = state g.S.Store c.args.tx.now.conn.now in
    let mid = state g.S.Store c.change_with_receipt.new.tx.conn.now in
    let new = state g.S.Store c.update_ends.new.tx.conn.now in
    let before : HasCleanDisk mid → HasCleanDisk start = λ clean. omega (arith, c.change_with_receipt.ensures.inside.survives.clean) in
    let done : Went start mid rows (with_stored stored then) (Unit {0}) =
    λ sees. (c.change_with_receipt.ensures.inside, λ clean. (sees_same mid then (with_stored stored then) (recorded_stored court n stored command reply changes rows are) (c.in_ok-change_with_receipt.ensures.any clean court n stored rows are small (sees (before clean))), tt)) in
    let left = c.in-Ok.ensures.any stored then in
    (left.0, left.1, went_after start mid new rows (with_stored stored then) (with_stored left.0 then) (Unit {0}) (Unit {0}) (Unit {0}) done left.2 (λ a b. tt))

pub returns-in-Err-clause-any : goal.returns-in-Err-clause-any
returns-in-Err-clause-any g c n stored rows are small =
    let court = c.args.court.now in
    let command = c.args.command.now in
    let reply = c.args.changes.now.reply in
    let changes = c.args.changes.now.rows.items in
    let then : Rows = recorded court n command reply changes rows in
    let start = state g.S.Store c.args.tx.now.conn.now in
    let mid = state g.S.Store c.change_with_receipt.new.tx.conn.now in
    let new = state g.S.Store c.update_ends.new.tx.conn.now in
    let before : HasCleanDisk mid → HasCleanDisk start = λ clean. omega (arith, c.change_with_receipt.ensures.inside.survives.clean) in
    let done : Went start mid rows (with_stored stored then) (Unit {0}) =
    λ sees. (c.change_with_receipt.ensures.inside, λ clean. (sees_same mid then (with_stored stored then) (recorded_stored court n stored command reply changes rows are) (c.in_ok-change_with_receipt.ensures.any clean court n stored rows are small (sees (before clean))), tt)) in
    let left = c.update_ends.ensures.any stored then in
    let stays : Stays start new rows = stays_after start mid new rows (with_stored stored then) (Unit {0}) done (λ sees. (left.2 sees).0) in
    (left.0, left.1, λ sees. (stays sees, λ clean. tt))

pub returns-in_err-change_with_receipt-clause-cause : goal.returns-in_err-change_with_receipt-clause-cause
returns-in_err-change_with_receipt-clause-cause g c clean t ends small may written sees =
    let court = c.args.court.now in
    let start = state g.S.Store c.args.tx.now.conn.now in
    let mid = state g.S.Store c.change_with_receipt.new.tx.conn.now in
    let short = zone_short court.zone_text c.zone_text-zone.ensures.zone in
    change_passed start mid c.in_err-change_with_receipt.field-0.0 c.from_residual.result c.from_residual.ensures.1
    (c.in_err-change_with_receipt.ensures.cause clean court t ends small short sees written.added written.received written.storable written.kept)

pub returns-in-Err-clause-cause : goal.returns-in-Err-clause-cause
returns-in-Err-clause-cause g c clean t ends small may written sees =
    let court = c.args.court.now in
    let then : Tables = with_changes c.args.command.now c.args.changes.now t in
    let start = state g.S.Store c.args.tx.now.conn.now in
    let mid = state g.S.Store c.change_with_receipt.new.tx.conn.now in
    let new = state g.S.Store c.update_ends.new.tx.conn.now in
    let between : HasCleanDisk mid = omega (arith, clean, c.update_ends.ensures.clean) in
    let now = c.in_ok-change_with_receipt.ensures.ok between court t ends small sees in
    let survives = c.change_with_receipt.ensures.inside.survives in
    let cause = c.in-Err.ensures.cause clean then ends may written.ends written.sound now in
    change_after start mid new new c.store_error.result survives.counts (omega arith) survives.limit
    (error_caused mid new c.in-Err.fault c.store_error.result c.store_error.ensures.store c.store_error.ensures.short cause)
