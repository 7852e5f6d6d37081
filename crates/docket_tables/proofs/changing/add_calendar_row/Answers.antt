use Rattle.docket_tables.proofs.ChangeCauses.{change_after, change_passed}
use Rattle.std.proofs.Common.{◌∙◌, inl, arith}
use Rattle.std.proofs.lemmas.Result.{IfOk-weaker, IfErr-weaker}
use Rattle.sqlite.specs.Held.{state}
use Rattle.docket_tables.specs.AnyRows.{with_calendar_row}
use Rattle.docket_tables.specs.Contents.{rows_with}
use Rattle.docket_tables.proofs.AnyLemmas.{court_apart}
use Rattle.docket_tables.proofs.CommitLemmas.{inside_then}
use Rattle.docket_tables.proofs.ContentsLemmas.{calendar_added, sees_same}
use Rattle.docket_tables.proofs.changing.add_calendar_row.Goals as goal

pub returns-clause-inside : goal.returns-clause-inside
returns-clause-inside g c = inside_then _ _ _ c.insert_calendar_row.ensures.inside c.count_calendar_row.ensures.inside

pub returns-clause-ok : goal.returns-clause-ok
returns-clause-ok g c clean court t ends small sees =
    let last = state g.S.Store c.count_calendar_row.new.tx.conn.now in
    let row = c.args.row.now in
    let rows = rows_with court t ends in
    let added = c.in_ok-insert_calendar_row.ensures.ok (omega (arith, c.count_calendar_row.ensures.inside.survives.clean)) rows sees in
    IfOk-weaker c.count_calendar_row.result _ _ (λ _ h. sees_same last _ _ (calendar_added court t ends row) h)
    (c.count_calendar_row.ensures.ok clean court t.next_row (with_calendar_row row.number row.name row.item rows) small (court_apart row.number row.name row.item rows) added)

pub returns-clause-any : goal.returns-clause-any
returns-clause-any g c clean court n stored rows are small sees =
    let row = c.args.row.now in
    let added = c.in_ok-insert_calendar_row.ensures.ok (omega (arith, c.count_calendar_row.ensures.inside.survives.clean)) rows sees in
    c.count_calendar_row.ensures.ok clean court n (with_calendar_row row.number row.name row.item rows) small (court_apart row.number row.name row.item rows ∙ are.court) added

pub returns-in_err-insert_calendar_row-clause-cause : goal.returns-in_err-insert_calendar_row-clause-cause
returns-in_err-insert_calendar_row-clause-cause g c clean court t ends small short sees may storable =
    let old = state g.S.Store c.args.tx.now.conn.now in
    let new = state g.S.Store c.insert_calendar_row.new.tx.conn.now in
    change_passed old new c.in_err-insert_calendar_row.field-0.0 c.from_residual.result c.from_residual.ensures.1 (c.in_err-insert_calendar_row.ensures.cause clean court t ends sees may storable)

pub returns-clause-cause : goal.returns-clause-cause
returns-clause-cause g c clean court t ends small short sees may storable =
    let old = state g.S.Store c.args.tx.now.conn.now in
    let mid = state g.S.Store c.insert_calendar_row.new.tx.conn.now in
    let new = state g.S.Store c.count_calendar_row.new.tx.conn.now in
    let row = c.args.row.now in
    let rows = rows_with court t ends in
    let added = c.in_ok-insert_calendar_row.ensures.ok (omega (arith, clean, c.count_calendar_row.ensures.inside.survives.clean)) rows sees in
    let survives = c.insert_calendar_row.ensures.inside.survives in
    IfErr-weaker c.count_calendar_row.result _ _ (λ e h. change_after old mid new new e survives.counts (omega arith) survives.limit (inl h))
    (c.count_calendar_row.ensures.cause clean court t.next_row (with_calendar_row row.number row.name row.item rows) small short (court_apart row.number row.name row.item rows) added)
