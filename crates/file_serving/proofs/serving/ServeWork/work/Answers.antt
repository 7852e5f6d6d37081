use Rattle.std.proofs.Common.{◌≡◌, ◌∙◌, Option, None, Result, Ok, Err, sym, ap, subst, arith}
use Rattle.sqlite.specs.Held.{Held, state}
use Rattle.sqlite.specs.State.{HasCleanDisk}
use Rattle.sqlite.specs.Store.{Ghosts}
use Rattle.sqlite.specs.declared.error.Error.{Error}
use Rattle.docket_scan.specs.declared.fault.AdoptFault.{AdoptFault}
use Rattle.docket_tables.specs.Layouts.{Rows}
use Rattle.docket_tables.specs.Stands.{HoldsRows}
use Rattle.docket_serving.specs.Desks.{Desk}
use Rattle.docket_applying.specs.Dockets.{Docket as Stored}
use Rattle.docket_applying.specs.CourtDockets.{StandsAs}
use Rattle.file_dockets.specs.Keeping.{HoldsBetween, rows_told}
use Rattle.file_serving.specs.Serves.{IfUnserved, Serves, ServesOver, ServesPlace}
use Rattle.file_serving.specs.declared.serving.ServeEnd.{ServeEnd}
use Rattle.file_serving.specs.declared.serving.Service.{Service}
use Rattle.file_serving.specs.declared.serving.ServeEnd.TheVariants.{NotAnnounced, NotListening, Stopped}
use Rattle.file_dockets.proofs.AdoptLemmas.{adopted, rejected}
use Rattle.file_dockets.proofs.KeepLemmas.{held}
use Rattle.file_dockets.proofs.WorkLemmas.{kept_rejected, unadopted_works}
use Rattle.file_serving.proofs.serving.ServeWork.work.Goals as goal

-- where no connection was waited for the rows stay
unserved_port : {S : Type 0} (g : Ghosts S) (old new : Desk S) (service : Service) (end : Result (Unit {0}) ServeEnd) (conn : Held S) (rows : Rows)
    → ServesPlace g old new service end → conn ≡ new.docket.conn → HoldsRows g old.docket.conn rows → IfUnserved (Ok end) (HoldsBetween g conn rows rows)
unserved_port g old new service (Ok done) conn rows served left holds = tt
unserved_port g old new service (Err (Stopped fault)) conn rows served left holds = tt
unserved_port {S} g old new service (Err (NotListening kind)) conn rows served left holds =
    subst (λ (c : Held S). HoldsBetween g c rows rows) (sym (left ∙ ap (λ (d : Desk S). d.docket.conn) served)) (held g old.docket.conn rows holds)
unserved_port {S} g old new service (Err (NotAnnounced kind)) conn rows served left holds =
    subst (λ (c : Held S). HoldsBetween g c rows rows) (sym (left ∙ ap (λ (d : Desk S). d.docket.conn) served)) (held g old.docket.conn rows holds)

pub returns-in-Err-clause-comes : goal.returns-in-Err-clause-comes
returns-in-Err-clause-comes g c =
    let returned = c.in-Err.returned in
    let why = c.in-Err.ensures in
    let Over : Held g.row.S.Denot → Option Error → Result (Result (Unit {0}) ServeEnd) AdoptFault → Type 0 =
    λ conn error outcome. ServesOver g.S.Store c.args.conn conn c.args.self.service.now error outcome in
    subst (Over c.from.result.connection c.from.result.failure) (sym c.from.ensures.0) (subst (λ (e : Option Error). Over c.from.result.connection e (Err returned.fault)) (sym c.from.ensures.2)
    (subst (λ (conn : Held g.row.S.Denot). Over conn returned.failure (Err returned.fault)) (sym c.from.ensures.1) (record {
      adopts = rejected g.S.Store c.args.conn returned.connection returned.failure returned.fault why.told why.cause why.writes_nothing;
      served = λ told is stands clean. unadopted_works g.S.Store returned.connection (rows_told told) (Serves g.S.Store returned.connection told c.args.self.service.now) returned.fault
          (why.adopted told.court told.history is stands) clean;
      stays = λ rows holds. kept_rejected g.S.Store returned.connection rows returned.fault (why.stays rows holds);
    })))

pub returns-clause-comes : goal.returns-clause-comes
returns-clause-comes g c =
    let same : c.close.result ≡ c.listen-end.new.desk.docket.conn = c.close.ensures.conn ∙ ap (λ (d : Stored g.row.S.Denot). d.conn) c.into_docket.ensures in
    let then : HasCleanDisk (state g.S.Store c.close.result) → HasCleanDisk (state g.S.Store c.in-Ok.found.0.conn) = λ clean.
    let now : HasCleanDisk (state g.S.Store c.listen-end.new.desk.docket.conn) = subst (λ (conn : Held g.row.S.Denot). HasCleanDisk (state g.S.Store conn)) same clean in
    let was : HasCleanDisk (state g.S.Store c.new-desk.result.docket.conn) = omega (arith, now, c.listen-end.ensures.clean) in
    subst (λ (d : Desk g.row.S.Denot). HasCleanDisk (state g.S.Store d.docket.conn)) c.new-desk.ensures was in
    record {
      adopts = adopted g.S.Store c.args.conn c.in-Ok.found.0 c.in-Ok.found.1 c.close.result None c.listen-end.result c.in-Ok.ensures.told c.in-Ok.ensures.writes_nothing.clean then;
      served = λ told is stands clean.
          let adopted = c.in-Ok.ensures.adopted told.court told.history is stands (then clean) in
          let found : StandsAs g.S.Store c.in-Ok.found.0 told = record { court = adopted.1; stands = adopted.0 } in
          record {
            adopted = c.new-desk.result;
            last = c.listen-end.new.desk;
            stands = subst (λ (d : Desk g.row.S.Denot). StandsAs g.S.Store d.docket told) (sym c.new-desk.ensures) found;
            served = c.listen-end.ensures.served;
            left = same;
          };
      stays = λ rows holds.
          let here : HoldsRows g.S.Store c.new-desk.result.docket.conn rows =
          subst (λ (d : Desk g.row.S.Denot). HoldsRows g.S.Store d.docket.conn rows) (sym c.new-desk.ensures) (c.in-Ok.ensures.stays rows holds) in
          unserved_port g.S.Store c.new-desk.result c.listen-end.new.desk c.args.self.service.now c.listen-end.result c.close.result rows c.listen-end.ensures.served same here;
    }
