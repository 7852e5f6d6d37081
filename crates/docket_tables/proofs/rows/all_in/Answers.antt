use Rattle.std.proofs.Common.{◌≡◌, ◌∙◌, ◌<◌, ◌++◌, [], ◌∷◌, length, get_or, sym, ap₂, arith, rules}
use Rattle.docket_tables.proofs.RowLemmas.{row_of}
use Rattle.docket_tables.proofs.rows.all_in.Goals as goal

pub returns-in_default-clause-read : goal.returns-in_default-clause-read
returns-in_default-clause-read g c all each are =
    let is : c.row-item.result ≡ get_or c.args.rows.now c.loop-row.row-index c.row-item.result = search rules in
    let low : c.loop-row.row-index < length c.args.rows.now = omega (arith, c.loop-row-test.true) in
    let row = row_of g.R.StoredRow.cells g.R.StoredRow.Is all c.args.rows.now c.loop-row.row-index c.row-item.result each are low is in
    c.in_default.not-Some row.element (c.in_ok-one.ensures.reads row.element row.typed row.is)

pub loop-row-preserved : goal.loop-row-preserved
loop-row-preserved g c all each are =
    let is : c.row-item.result ≡ get_or c.args.rows.now c.loop-row.row-index c.row-item.result = search rules in
    let low : c.loop-row.row-index < length c.args.rows.now = omega (arith, c.loop-row-test.true) in
    let row = row_of g.R.StoredRow.cells g.R.StoredRow.Is all c.args.rows.now c.loop-row.row-index c.row-item.result each are low is in
    let read = c.in_ok-one.ensures.reads row.element row.typed row.is in
    let same : c.in-Some.one ≡ row.element = let some = c.in-Some.is in cc in
    c.in_ok-push.ensures.items ∙ ap₂ (λ xs x. xs ++ x ∷ []) (c.loop-row.invariant all each are) same ∙ sym row.more
