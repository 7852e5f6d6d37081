-- What a service leaves, from a desk to the files.
use Rattle.std.proofs.Common.{◌≡◌, inl, inr, ◌∙◌, Option, None, Result, Ok, Err, sym, ap, subst}
use Rattle.sqlite_disk.specs.declared.Disk.{Ghosts as Disk}
use Rattle.sqlite_wal.specs.Recovery.{Image}
use Rattle.sqlite.specs.Files.{IsCleanLeft, over_files}
use Rattle.sqlite.specs.Held.{Held, state}
use Rattle.sqlite.specs.State.{HasCleanDisk}
use Rattle.sqlite.specs.Store.{Ghosts}
use Rattle.sqlite.specs.declared.error.Error.{Error}
use Rattle.sqlite.specs.declared.file.Leftover.{Leftover}
use Rattle.court_days.specs.Court.{CourtSettings}
use Rattle.docket_columns.specs.declared.version.Version.TheVariants.{Second}
use Rattle.docket_history.specs.Histories.{History}
use Rattle.http_request.specs.declared.page.Routes.{Routes}
use Rattle.docket_scan.specs.declared.fault.AdoptFault.{AdoptFault}
use Rattle.docket_tables.specs.Layouts.{Rows}
use Rattle.docket_applying.specs.Applying.{IsDocket, StandsFor, docket_rows}
use Rattle.docket_applying.specs.CourtDockets.{CourtDocket as Docket, StandsAs}
use Rattle.docket_store.specs.Left.{LeavesRows}
use Rattle.docket_store.specs.Reopening.{HoldDocket}
use Rattle.docket_serving.specs.Desks.{Desk}
use Rattle.docket_serving.specs.Serving.{ServesRun}
use Rattle.docket_serving.specs.declared.serving.ServingFault.{ServingFault}
use Rattle.docket_serving.proofs.LedLemmas.{HoldsLed, each_led}
use Rattle.file_dockets.specs.Keeping.{HoldsBetween, rows_told}
use Rattle.file_dockets.specs.Working.{IsDoneOn}
use Rattle.file_dockets.specs.Works.{WorksTo}
use Rattle.file_dockets.proofs.KeepLemmas.{either, held}
use Rattle.file_dockets.proofs.WorkLemmas.{works_map}
use Rattle.file_serving.specs.Left.{LeavesLed, LeavesServed}
use Rattle.file_serving.specs.Serves.{AreServed, Serves, ServesOver}
use Rattle.file_serving.specs.declared.serving.ServeEnd.{ServeEnd}
use Rattle.file_serving.specs.declared.serving.ServeEnd.TheVariants.{NotAnnounced, NotListening, Stopped}
use Rattle.file_serving.specs.declared.serving.Service.{Service}

module _ (L M : Rows → Rows → Type 0) (more : (rows next : Rows) → L rows next → M rows next) (docket : Docket) (service : Service) where
  led_map : (result : Result (Unit {0}) ServingFault) → LeavesLed L docket service result → LeavesLed M docket service result
  led_map result it = record {
    routes = it.routes;
    shown = it.shown;
    exchanges = it.exchanges;
    ends = it.ends;
    rise = it.rise;
    last = it.last;
    next = it.next;
    is = it.is;
    leads = it.leads;
    left = more _ _ it.left;
  }

  -- whatever else is left by that
  served_map : (end : Result (Unit {0}) ServeEnd) → LeavesServed L docket service end → LeavesServed M docket service end
  served_map (Ok done) it = led_map (Ok done) it
  served_map (Err (Stopped fault)) it = led_map (Err fault) it
  served_map (Err (NotListening kind)) it = more _ _ it
  served_map (Err (NotAnnounced kind)) it = more _ _ it

module _ {S : Type 0} (g : Ghosts S) (conn : Held S) (docket : Docket) (service : Service) where
  between_led : (routes : Routes) (last next : History) → HoldsLed g routes docket.court conn last next → HoldsBetween g conn (docket_rows docket.court last) (docket_rows docket.court next)
  between_led routes last next (inl is) =
      subst (λ (h : History). HoldsBetween g conn (docket_rows docket.court last) (docket_rows docket.court h)) (sym is.1) (held g conn (docket_rows docket.court last) is.0)
  between_led routes last next (inr is) = either g conn (docket_rows docket.court last) (docket_rows docket.court next) is

  -- connections were taken at a desk
  led_left : (adopted last : Desk S) (result : Result (Unit {0}) ServingFault) → StandsAs g adopted.docket docket → AreServed service last.routes
      → ServesRun g last.routes adopted.number last.number adopted.docket last.docket service.count None None result → conn ≡ last.docket.conn → HasCleanDisk (state g conn)
      → LeavesLed (HoldsBetween g conn) docket service result
  led_left adopted last result stands shown run same clean =
      let was = subst (λ (c : Held S). HasCleanDisk (state g c)) same clean in
      let found = each_led g last.routes docket.court run.exchanges adopted.docket last.docket docket.history stands.court run.each stands.stands was in
      record {
        routes = last.routes;
        shown = shown;
        exchanges = run.exchanges;
        ends = run.ends;
        rise = (adopted.number, last.number, run.rise);
        last = found.last;
        next = found.next;
        is = found.docket;
        leads = found.leads;
        left = between_led last.routes found.last found.next (subst (λ (c : Held S). HoldsLed g last.routes docket.court c found.last found.next) (sym same) found.holds);
      }

  stands_still : (adopted last : Desk S) → StandsAs g adopted.docket docket → last ≡ adopted → conn ≡ last.docket.conn → HoldsBetween g conn (rows_told docket) (rows_told docket)
  stands_still adopted last stands same is =
      let rows : StandsFor g adopted.docket.conn docket.court docket.history =
      subst (λ (c : CourtSettings). StandsFor g adopted.docket.conn c docket.history) stands.court stands.stands.rows in
      subst (λ (c : Held S). HoldsBetween g c (rows_told docket) (rows_told docket)) (sym (is ∙ ap (λ (d : Desk S). d.docket.conn) same)) (held g adopted.docket.conn (rows_told docket) rows)

  served_left : (end : Result (Unit {0}) ServeEnd) → Serves g conn docket service end → HasCleanDisk (state g conn) → LeavesServed (HoldsBetween g conn) docket service end
  served_left (Ok done) it clean = led_left it.adopted it.last (Ok done) it.stands it.served.0 it.served.1 it.left clean
  served_left (Err (Stopped fault)) it clean = led_left it.adopted it.last (Err fault) it.stands it.served.0 it.served.1 it.left clean
  served_left (Err (NotListening kind)) it clean = stands_still it.adopted it.last it.stands it.served it.left
  served_left (Err (NotAnnounced kind)) it clean = stands_still it.adopted it.last it.stands it.served it.left

-- from a connection to the files that it leaves
pub served_on : {D : Type 0} {g : Disk D} (start : Image) (service : Service) (failure : Option Error) (outcome : Result (Result (Unit {0}) ServeEnd) AdoptFault) (rest : Leftover D g)
    → IsDoneOn start (λ old new. ServesOver over_files old new service failure) outcome rest → (docket : Docket) → IsDocket docket.court docket.history
    → HoldDocket start docket.court docket.history → IsCleanLeft rest → WorksTo (LeavesServed (LeavesRows rest) docket service) outcome
served_on start service failure outcome rest done docket is files left =
    let clean = done.trust left in
    works_map _ _
    (λ end it. served_map (HoldsBetween over_files done.back) (LeavesRows rest) (λ rows next holds. done.left rows next holds left) docket service end
    (served_left over_files done.back docket service end it clean)) outcome
    (done.comes.served docket is (done.holds Second (rows_told docket) files) clean)
