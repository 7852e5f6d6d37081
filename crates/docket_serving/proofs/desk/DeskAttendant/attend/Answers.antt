use Rattle.std.proofs.Common.{◌∙◌, ap, refl, subst, sym}
use Rattle.docket_serving.specs.Desks.{Desk, DeskAttends}
use Rattle.docket_serving.specs.Exchanges.{exchange}
use Rattle.docket_serving.proofs.RunLemmas.{attended_by, attended_by_copy, wanted_copy}
use Rattle.docket_serving.proofs.desk.DeskAttendant.attend.Goals as goal

pub returns : goal.returns
returns g c =
    let input = g.R.Read.remaining c.args.reader.now in
    let before = g.W.Write.contents c.args.writer.now in
    let after = g.W.Write.contents c.serve_one-served.new.writer in
    let routes = c.self.inside.routes in
    let number = c.number_above-self-inside.result in (
      number,
      subst (λ (old : Desk g.row.S.Denot). DeskAttends g.S.Store old (exchange number input before after c.serve_one-served.result) (record { docket = c.serve_one-served.new.docket; routes = routes; number = number })) c.self.view_is (
        refl,
        (c.number_above-self-inside.ensures.above, refl),
        attended_by g.S.Store routes number c.self.inside.docket c.serve_one-served.new.docket input before after c.serve_one-served.result
            c.serve_one-served.ensures.court c.serve_one-served.ensures.clean c.serve_one-served.ensures.any c.serve_one-served.ensures.still c.serve_one-served.ensures.closed
            c.serve_one-served.ensures.served c.serve_one-served.ensures.fails c.serve_one-served.ensures.recorded c.serve_one-served.ensures.untouched
            (sym c.is_copy_wanted.ensures ∙ c.if-is_copy_wanted.false),
      ),
    )

pub returns-then-is_copy_wanted : goal.returns-then-is_copy_wanted
returns-then-is_copy_wanted g c =
    let input = g.R.Read.remaining c.args.reader.now in
    let before = g.W.Write.contents c.args.writer.now in
    let middle = g.W.Write.contents c.serve_one-served.new.writer in
    let after = g.W.Write.contents c.give_copy.new.writer in
    let routes = c.self.inside.routes in
    let number = c.number_above-self-inside.result in
    let wanted = c.serve_one-served.ensures.copy (wanted_copy c.serve_one-served.result (sym c.is_copy_wanted.ensures ∙ c.if-is_copy_wanted.true)) in (
      number,
      subst (λ (old : Desk g.row.S.Denot). DeskAttends g.S.Store old (exchange number input before after c.give_copy.result) (record { docket = c.serve_one-served.new.docket; routes = routes; number = number })) c.self.view_is (
        refl,
        (c.number_above-self-inside.ensures.above, refl),
        attended_by_copy g.S.Store routes number c.self.inside.docket c.serve_one-served.new.docket input before middle after c.give_copy.result
            c.serve_one-served.ensures.any (wanted.0, ap g.W.Write.contents wanted.1) c.give_copy.ensures,
      ),
    )
