use Rattle.std.proofs.Common.{◌∙◌, ◌∷◌, sym, ap}
use Rattle.docket_columns.specs.Cells.{stored_cells}
use Rattle.docket_wire.specs.Writing.{canonical}
use Rattle.docket_tables.specs.Contents.{rows_in}
use Rattle.docket_tables.specs.declared.table.Table.TheVariants.{Receipts}
use Rattle.docket_tables.proofs.CauseLemmas.{text_suits}
use Rattle.docket_tables.proofs.ReadLemmas.{gives}
use Rattle.docket_tables.proofs.FoundLemmas.{kept_read}
use Rattle.docket_tables.proofs.ReceiptLemmas.{receipt_found}
use Rattle.docket_tables.proofs.AskLemmas.{rows_read, rows_unread}
use Rattle.docket_tables.proofs.reading.under_key.Goals as goal

pub returns-clause-read : goal.returns-clause-read
returns-clause-read g c court t orderly holds =
    let asked = c.in_ok-rows.ensures.ok (rows_in court t) holds in
    let rows = c.in_ok-rows.rows.items in
    gives g.S.Store c.ask.new.conn (rows_in court t) _ c.kept_in.result asked.0 (λ clean.
    let answer = rw (c.to_sql.ensures, c.as_str.ensures) at (asked.1 clean) in
    kept_read c.args.command.now c.kept_in.result rows t.receipts orderly.receipts (orderly.one_receipt c.args.command.now.key) answer (λ none. c.kept_in.ensures.none (c.as_slice.ensures.value ∙ none))
    (λ row typed one. c.kept_in.ensures.one row c.args.command.now typed c.requires.lawful c.requires.body (c.as_slice.ensures.value ∙ one)))

pub returns-clause-found : goal.returns-clause-found
returns-clause-found g c rows holds clean reply same =
    let answer = rw (c.to_sql.ensures, c.as_str.ensures) at ((c.in_ok-rows.ensures.ok rows holds).1 clean) in
    let it = c.kept_in.ensures.same reply same in
    let body = ap (λ text. stored_cells it.0 text reply.number ∷ it.1) c.requires.body in
    receipt_found c.args.command.now.key (canonical c.args.command.now) reply.number (rows Receipts) c.in_ok-rows.rows.items answer (it.0, it.1, sym c.as_slice.ensures.value ∙ it.2 ∙ body)

pub returns-in_err-rows-clause-only : goal.returns-in_err-rows-clause-only
returns-in_err-rows-clause-only g c =
    rows_unread g.S.Store _ _ c.from_residual.result c.ask.ensures.mode c.ask.ensures.writes_nothing c.in_err-rows.field-0.0 c.from_residual.ensures.1 c.in_err-rows.ensures.err
    (λ rows holds clean. c.in_err-rows.ensures.cause rows holds (text_suits c.to_sql.ensures) clean)

pub returns-clause-only : goal.returns-clause-only
returns-clause-only g c = rows_read g.S.Store _ _ c.kept_in.result c.ask.ensures.mode c.ask.ensures.writes_nothing (λ rows holds. (c.in_ok-rows.ensures.ok rows holds).0) c.kept_in.ensures.own
