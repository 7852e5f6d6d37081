use Rattle.std.proofs.Common.{◌≡◌, ◌∙◌, ◌&&◌, true, false, length, nat_le, ap, sym, arith}
use Rattle.std.specs.Option.{option_and_then}
use Rattle.sqlite.specs.Held.{state}
use Rattle.sqlite.specs.State.{HasCleanDisk}
use Rattle.docket_history.specs.Actions.{if_asked}
use Rattle.docket_history.specs.Histories.{parties_of_case, entries_of_case, deadlines_of_case}
use Rattle.docket_history.specs.Views.{deadline_at}
use Rattle.docket_history.specs.declared.subject.Subject.{Subject}
use Rattle.docket_decisions.specs.Tables.{deadlines_in, is_case_in}
use Rattle.docket_tables.specs.Contents.{rows_in}
use Rattle.docket_tables.proofs.ReadLemmas.{err_given}
use Rattle.docket_applying.proofs.ViewLemmas.{no_case, one_case}
use Rattle.docket_tables.proofs.AskLemmas.{asked, asked_err, asked_then}
use Rattle.docket_applying.proofs.viewing.case_view.Goals as goal

pub returns-in_err-count-clause-read : goal.returns-in_err-count-clause-read
returns-in_err-count-clause-read g c court t orderly holds =
    err_given g.S.Store c.cases.new.conn (rows_in court t) _ c.in_err-count.field-0.0 c.from_residual.result c.from_residual.ensures.1 (c.in_err-count.ensures.read court t orderly holds)

pub returns-then-not-is_among-clause-read : goal.returns-then-not-is_among-clause-read
returns-then-not-is_among-clause-read g c court t orderly holds =
    let read0 = c.in_ok-count.ensures.read court t orderly holds in (
      read0.0,
      λ clean.
          let out : is_case_in t c.args.number ≡ false =
          ap (λ n. nat_le 1 c.args.number && nat_le c.args.number n) (sym (read0.1 clean)) ∙ sym c.is_among.ensures ∙ c.if-not-is_among.true in
          sym (no_case t c.args.action.now c.args.number out),
    )

pub returns-in_err-parties-clause-read : goal.returns-in_err-parties-clause-read
returns-in_err-parties-clause-read g c court t orderly holds =
    let read0 = c.in_ok-count.ensures.read court t orderly holds in
    err_given g.S.Store c.parties_if_asked.new.conn (rows_in court t) _ c.in_err-parties.field-0.0 c.from_residual-in_err-parties.result c.from_residual-in_err-parties.ensures.1 (c.in_err-parties.ensures.read court t orderly read0.0)

pub returns-in_err-entries-clause-read : goal.returns-in_err-entries-clause-read
returns-in_err-entries-clause-read g c court t orderly holds =
    let read0 = c.in_ok-count.ensures.read court t orderly holds in
    let read1 = c.in_ok-parties.ensures.read court t orderly read0.0 in
    err_given g.S.Store c.entries_if_asked.new.conn (rows_in court t) _ c.in_err-entries.field-0.0 c.from_residual-in_err-entries.result c.from_residual-in_err-entries.ensures.1 (c.in_err-entries.ensures.read court t orderly read1.0)

pub returns-in_err-deadlines-clause-read : goal.returns-in_err-deadlines-clause-read
returns-in_err-deadlines-clause-read g c court t orderly holds =
    let read0 = c.in_ok-count.ensures.read court t orderly holds in
    let read1 = c.in_ok-parties.ensures.read court t orderly read0.0 in
    let read2 = c.in_ok-entries.ensures.read court t orderly read1.0 in
    err_given g.S.Store c.deadlines_if_asked.new.conn (rows_in court t) _ c.in_err-deadlines.field-0.0 c.from_residual-in_err-deadlines.result c.from_residual-in_err-deadlines.ensures.1 (c.in_err-deadlines.ensures.read court t orderly read2.0)

pub returns-in_err-named-clause-read : goal.returns-in_err-named-clause-read
returns-in_err-named-clause-read g c court t orderly holds =
    let read0 = c.in_ok-count.ensures.read court t orderly holds in
    let read1 = c.in_ok-parties.ensures.read court t orderly read0.0 in
    let read2 = c.in_ok-entries.ensures.read court t orderly read1.0 in
    let read3 = c.in_ok-deadlines.ensures.read court t orderly read2.0 in
    err_given g.S.Store c.deadline_asked.new.conn (rows_in court t) _ c.in_err-named.field-0.0 c.from_residual-in_err-named.result c.from_residual-in_err-named.ensures.1 (c.in_err-named.ensures.read court t orderly read3.0)

pub returns-in_err-is_served-clause-read : goal.returns-in_err-is_served-clause-read
returns-in_err-is_served-clause-read g c court t orderly holds =
    let read0 = c.in_ok-count.ensures.read court t orderly holds in
    let read1 = c.in_ok-parties.ensures.read court t orderly read0.0 in
    let read2 = c.in_ok-entries.ensures.read court t orderly read1.0 in
    let read3 = c.in_ok-deadlines.ensures.read court t orderly read2.0 in
    let read4 = c.in_ok-named.ensures.read court t orderly read3.0 in
    err_given g.S.Store c.is_served.new.conn (rows_in court t) _ c.in_err-is_served.field-0.0 c.from_residual-in_err-is_served.result c.from_residual-in_err-is_served.ensures.1 (c.in_err-is_served.ensures.read court t orderly read4.0)

pub returns-clause-read : goal.returns-clause-read
returns-clause-read g c court t orderly holds =
    let k = c.args.number in
    let read0 = c.in_ok-count.ensures.read court t orderly holds in
    let read1 = c.in_ok-parties.ensures.read court t orderly read0.0 in
    let read2 = c.in_ok-entries.ensures.read court t orderly read1.0 in
    let read3 = c.in_ok-deadlines.ensures.read court t orderly read2.0 in
    let read4 = c.in_ok-named.ensures.read court t orderly read3.0 in
    let read5 = c.in_ok-is_served.ensures.read court t orderly read4.0 in (
      read5.0,
      λ clean5.
          let clean4 : HasCleanDisk (state g.S.Store c.deadline_asked.new.conn) = omega (arith, c.is_served.ensures.only.writes_nothing.clean) in
          let clean3 : HasCleanDisk (state g.S.Store c.deadlines_if_asked.new.conn) = omega (arith, c.deadline_asked.ensures.only.writes_nothing.clean) in
          let clean2 : HasCleanDisk (state g.S.Store c.entries_if_asked.new.conn) = omega (arith, c.deadlines_if_asked.ensures.only.writes_nothing.clean) in
          let clean1 : HasCleanDisk (state g.S.Store c.parties_if_asked.new.conn) = omega (arith, c.entries_if_asked.ensures.only.writes_nothing.clean) in
          let clean0 : HasCleanDisk (state g.S.Store c.cases.new.conn) = omega (arith, c.parties_if_asked.ensures.only.writes_nothing.clean) in
          let among : is_case_in t k ≡ true =
          ap (λ n. nat_le 1 k && nat_le k n) (sym (read0.1 clean0)) ∙ sym c.is_among.ensures ∙ c.if-not-is_among.false in
          sym (one_case t c.args.action.now k _ _ _ _ _ among
          (read1.1 clean1 ∙ ap (λ (s : Subject). if_asked s.asks.parties (length (parties_of_case k t.parties))) c.requires)
          (read2.1 clean2 ∙ ap (λ (s : Subject). if_asked s.asks.entries (length (entries_of_case k t.entries))) c.requires)
          (read3.1 clean3 ∙ ap (λ (s : Subject). if_asked s.asks.deadlines (length (deadlines_of_case k t.deadlines))) c.requires)
          (read4.1 clean4 ∙ ap (λ (s : Subject). option_and_then (deadline_at (deadlines_in t k)) s.deadline) c.requires) (read5.1 clean5)),
    )

pub returns-in_err-count-clause-only : goal.returns-in_err-count-clause-only
returns-in_err-count-clause-only g c = asked_err c.from_residual.result c.from_residual.ensures.1 c.in_err-count.ensures.only

pub returns-in_err-parties-clause-only : goal.returns-in_err-parties-clause-only
returns-in_err-parties-clause-only g c = asked_err c.from_residual-in_err-parties.result c.from_residual-in_err-parties.ensures.1 (asked_then c.in_ok-count.ensures.only c.in_err-parties.ensures.only)

pub returns-in_err-entries-clause-only : goal.returns-in_err-entries-clause-only
returns-in_err-entries-clause-only g c = asked_err c.from_residual-in_err-entries.result c.from_residual-in_err-entries.ensures.1 (asked_then c.in_ok-count.ensures.only (asked_then c.in_ok-parties.ensures.only c.in_err-entries.ensures.only))

pub returns-in_err-deadlines-clause-only : goal.returns-in_err-deadlines-clause-only
returns-in_err-deadlines-clause-only g c = asked_err c.from_residual-in_err-deadlines.result c.from_residual-in_err-deadlines.ensures.1 (asked_then c.in_ok-count.ensures.only (asked_then c.in_ok-parties.ensures.only (asked_then c.in_ok-entries.ensures.only c.in_err-deadlines.ensures.only)))

pub returns-in_err-named-clause-only : goal.returns-in_err-named-clause-only
returns-in_err-named-clause-only g c = asked_err c.from_residual-in_err-named.result c.from_residual-in_err-named.ensures.1 (asked_then c.in_ok-count.ensures.only (asked_then c.in_ok-parties.ensures.only (asked_then c.in_ok-entries.ensures.only (asked_then c.in_ok-deadlines.ensures.only c.in_err-named.ensures.only))))

pub returns-in_err-is_served-clause-only : goal.returns-in_err-is_served-clause-only
returns-in_err-is_served-clause-only g c = asked_err c.from_residual-in_err-is_served.result c.from_residual-in_err-is_served.ensures.1 (asked_then c.in_ok-count.ensures.only (asked_then c.in_ok-parties.ensures.only (asked_then c.in_ok-entries.ensures.only (asked_then c.in_ok-deadlines.ensures.only (asked_then c.in_ok-named.ensures.only c.in_err-is_served.ensures.only)))))

pub returns-clause-only : goal.returns-clause-only
returns-clause-only g c = asked (asked_then c.in_ok-count.ensures.only (asked_then c.in_ok-parties.ensures.only (asked_then c.in_ok-entries.ensures.only (asked_then c.in_ok-deadlines.ensures.only (asked_then c.in_ok-named.ensures.only c.in_ok-is_served.ensures.only)))))

pub returns-then-not-is_among-clause-only : goal.returns-then-not-is_among-clause-only
returns-then-not-is_among-clause-only g c = asked c.in_ok-count.ensures.only
