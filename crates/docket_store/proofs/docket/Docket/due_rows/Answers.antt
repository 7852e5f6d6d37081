use Rattle.std.proofs.Common.{◌≡◌, is_some, refl, sym, subst, false, rules}
use Rattle.docket_applying.specs.Calendar.{calendar_rows}
use Rattle.docket_applying.specs.Applying.{Asks, Stands}
use Rattle.docket_applying.specs.Dockets.{Docket, serving}
use Rattle.docket_applying.proofs.AskLemmas.{asks_kept}
use Rattle.docket_store.proofs.OnlyLemmas.{closed_only}
use Rattle.docket_store.specs.Asking.{OnlyAnswers}
use Rattle.docket_store.proofs.docket.Docket.due_rows.Goals as goal

pub returns-clause-answer : goal.returns-clause-answer
returns-clause-answer g c h stands =
    let conn = c.due_days-answer.new.conn in
    let court = c.self.inside.court in
    let old = c.self.inside.calendar in
    let kept = c.due_days-answer.new.kept in
    let by = c.closing_error-self-inside.result in
    let here = subst (λ (d : Docket g.row.S.Denot). Stands g.S.Store d h) (sym c.self.view_is) stands in
    let serves : Stands g.S.Store (serving c.self.inside.conn court old) h = record { docket = here.docket; serves = refl; rows = here.rows; calendar = here.calendar } in
    subst (λ (d : Docket g.row.S.Denot). Asks g.S.Store (record { conn = conn; court = court; closed = is_some by; closed_by = by; calendar = kept }) h (λ found. found.items ≡ calendar_rows d.court h c.args.from c.args.to) c.due_days-answer.result) c.self.view_is
    (asks_kept g.S.Store conn court kept h (λ found. found.items ≡ calendar_rows court h c.args.from c.args.to) by c.due_days-answer.result c.closing_error-self-inside.ensures.fails.0
    (c.due_days-answer.ensures.answer h serves))

pub returns-clause-only : goal.returns-clause-only
returns-clause-only g c =
    let inside = c.self.inside in
    let by = c.closing_error-self-inside.result in
    let new = c.due_days-answer.new.conn in
    let kept = c.due_days-answer.new.kept in
    let unclosed : is_some inside.closed_by ≡ false = search rules in
    subst (λ (d : Docket g.row.S.Denot). OnlyAnswers g.S.Store d (record { conn = new; court = inside.court; closed = is_some by; closed_by = by; calendar = kept }) c.due_days-answer.result) c.self.view_is
    (closed_only g.S.Store (record { conn = inside.conn; court = inside.court; closed = is_some inside.closed_by; closed_by = inside.closed_by; calendar = inside.calendar }) new kept by c.due_days-answer.result unclosed
    c.closing_error-self-inside.ensures.fails c.due_days-answer.new.failure c.due_days-answer.ensures.leaves c.closing_error-self-inside.ensures.kept)
