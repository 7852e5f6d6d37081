use Rattle.std.proofs.Common.{◌≡◌, is_some, refl, sym, subst, false, rules}
use Rattle.std.specs.Option.{option_map}
use Rattle.docket_history.specs.Records.{deadline_lines}
use Rattle.docket_applying.specs.Applying.{Asks, Stands}
use Rattle.docket_applying.specs.Dockets.{Docket, serving}
use Rattle.docket_applying.proofs.AskLemmas.{asks_kept}
use Rattle.docket_store.proofs.OnlyLemmas.{closed_only}
use Rattle.docket_store.specs.Asking.{OnlyAnswers}
use Rattle.docket_store.proofs.docket.Docket.deadlines.Goals as goal

pub returns-clause-answer : goal.returns-clause-answer
returns-clause-answer g c h stands =
    let conn = c.lines_numbered-answer.new.conn in
    let court = c.self.inside.court in
    let old = c.self.inside.calendar in
    let kept = c.lines_numbered-answer.new.kept in
    let by = c.closing_error-self-inside.result in
    let here = subst (λ (d : Docket g.row.S.Denot). Stands g.S.Store d h) (sym c.self.view_is) stands in
    let serves : Stands g.S.Store (serving c.self.inside.conn court old) h = record { docket = here.docket; serves = refl; rows = here.rows; calendar = here.calendar } in
    subst (λ (d : Docket g.row.S.Denot). Asks g.S.Store (record { conn = conn; court = court; closed = is_some by; closed_by = by; calendar = kept }) h (λ found. option_map (λ lines. lines.items) found ≡ deadline_lines d.court h c.args.number) c.lines_numbered-answer.result) c.self.view_is
    (asks_kept g.S.Store conn court kept h (λ found. option_map (λ lines. lines.items) found ≡ deadline_lines court h c.args.number) by c.lines_numbered-answer.result c.closing_error-self-inside.ensures.fails.0
    (c.lines_numbered-answer.ensures.answer h serves))

pub returns-clause-only : goal.returns-clause-only
returns-clause-only g c =
    let inside = c.self.inside in
    let by = c.closing_error-self-inside.result in
    let new = c.lines_numbered-answer.new.conn in
    let kept = c.lines_numbered-answer.new.kept in
    let unclosed : is_some inside.closed_by ≡ false = search rules in
    subst (λ (d : Docket g.row.S.Denot). OnlyAnswers g.S.Store d (record { conn = new; court = inside.court; closed = is_some by; closed_by = by; calendar = kept }) c.lines_numbered-answer.result) c.self.view_is
    (closed_only g.S.Store (record { conn = inside.conn; court = inside.court; closed = is_some inside.closed_by; closed_by = inside.closed_by; calendar = inside.calendar }) new kept by c.lines_numbered-answer.result unclosed
    c.closing_error-self-inside.ensures.fails c.lines_numbered-answer.new.failure c.lines_numbered-answer.ensures.leaves c.closing_error-self-inside.ensures.kept)
