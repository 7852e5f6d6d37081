use Rattle.std.proofs.Common.{◌≡◌, None, sym, subst, arith}
use Rattle.sqlite.specs.Held.{Held, state}
use Rattle.sqlite.specs.State.{HasCleanDisk}
use Rattle.court_days.specs.Court.{CourtSettings}
use Rattle.docket_scan.specs.Dockets.{holdings_in}
use Rattle.file_dockets.proofs.AdoptLemmas.{adopted, rejected}
use Rattle.file_dockets.proofs.WorkLemmas.{held_closed}
use Rattle.file_questions.proofs.AskLemmas.{unasked}
use Rattle.file_questions.proofs.inquiry.AskedWorkUnit.work.Goals as goal

pub returns-in-Err-clause-comes : goal.returns-in-Err-clause-comes
returns-in-Err-clause-comes g c =
    let returned = c.in-Err.returned in
    let why = c.in-Err.ensures in
    unasked g.S.Store c.args.conn returned.connection _ returned.failure returned.fault c.from.result.connection c.from.result.failure c.from.result.outcome
    c.from.ensures.1 c.from.ensures.2 c.from.ensures.0 (rejected g.S.Store c.args.conn returned.connection returned.failure returned.fault why.told why.cause why.writes_nothing)
    (λ told. why.adopted told.court told.history) why.stays

pub returns-clause-comes : goal.returns-clause-comes
returns-clause-comes g c =
    let asked = c.ask-answer in
    let here : HasCleanDisk (state g.S.Store c.close.result) → HasCleanDisk (state g.S.Store asked.new.docket.conn) =
    subst (λ (conn : Held g.row.S.Denot). HasCleanDisk (state g.S.Store conn)) c.close.ensures.conn in
    record {
      adopts = adopted g.S.Store c.args.conn c.in-Ok.found.0 c.in-Ok.found.1 c.close.result None asked.result c.in-Ok.ensures.told c.in-Ok.ensures.writes_nothing.clean
          (λ clean. let now = here clean in omega (arith, now, asked.ensures.clean));
      told = λ told is stands clean.
          let now : HasCleanDisk (state g.S.Store asked.new.docket.conn) = here clean in
          let was : HasCleanDisk (state g.S.Store c.in-Ok.found.0.conn) = omega (arith, now, asked.ensures.clean) in
          let adopted = c.in-Ok.ensures.adopted told.court told.history is stands was in
          let counted = subst (λ (court : CourtSettings). c.in-Ok.found.1 ≡ holdings_in court told.history) (sym adopted.1) (c.in-Ok.ensures.counted told.court told.history is stands was) in
          subst (λ (court : CourtSettings). g.Q.Inquiry.Tells c.args.self.question.now court told.history c.args.out.now asked.new.out asked.result) adopted.1
          (asked.ensures.told told.history adopted.0 counted now);
      stays = λ rows holds. held_closed g.S.Store _ _ rows c.close.ensures.conn (asked.ensures.stays rows (c.in-Ok.ensures.stays rows holds));
    }
