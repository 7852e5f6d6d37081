use Rattle.std.proofs.Common.{◌≡◌, ℕ, List, false}
use Rattle.std.specs.Prelude.{IsTrue}
use Rattle.sqlite.specs.Order.{Row}
use Rattle.sqlite.specs.State.{HasCleanDisk, IsUnchanged, Survives}
use Rattle.sqlite.specs.Held.{state}
use Rattle.docket_history.specs.declared.record.DueRow.{DueRow}
use Rattle.docket_calendar.specs.Asked.{Lists, Gave}
use Rattle.docket_calendar.specs.Stops.{IsUnderWay}
use Rattle.docket_calendar.proofs.GatherLemmas.{IsGathered}
use Rattle.docket_calendar.proofs.gathering.gather_all.Given as goal

abbrev pub invariant-rows : goal.invariant-rows
invariant-rows g l =
    let old = l.fn.rows.conn.now in
    let now = l.rows.conn.now in
    record {
      same_reference : l.rows.conn.ghost_name ≡ l.fn.rows.conn.ghost_name;
      mode : old.in_transaction ≡ false → now.in_transaction ≡ false;
      survives : Survives (state g.S.Store old) (state g.S.Store now) (λ _. ⊥);
      way : HasCleanDisk (state g.S.Store now) → IsUnderWay g.S.Store old → IsUnderWay g.S.Store now;
      remains : HasCleanDisk (state g.S.Store now) → IsTrue (state g.S.Store old).is_open → IsUnchanged (state g.S.Store old) (state g.S.Store now);
      gathered : HasCleanDisk (state g.S.Store now) → (sql : List ℕ) (params : Row) (listed : List DueRow) → Lists sql params l.court l.entered (state g.S.Store old).now listed → Gave g.S.Store sql params l.court listed 0 old
          → IsTrue (state g.S.Store old).is_open → IsGathered g.S.Store l.court listed sql params l.counter l.found.items old now;
    }
