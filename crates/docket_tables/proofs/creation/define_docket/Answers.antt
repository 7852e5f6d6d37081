use Rattle.std.proofs.lemmas.Bool.Decides.{nat_tests}
use Rattle.std.proofs.Common.{[], ◌≤◌, ◌<◌, ℕ, List, inl, inr, length, true≢false, arith, refl}
use Rattle.std.proofs.lemmas.Result.{IfErr-weaker}
use Rattle.sqlite.specs.Held.{state}
use Rattle.docket_columns.specs.Cells.{court_cells}
use Rattle.docket_decisions.specs.Tables.{rows_of}
use Rattle.docket_tables.specs.Contents.{rows_in}
use Rattle.docket_tables.specs.Creation.{no_rows}
use Rattle.docket_tables.specs.declared.table.Table.TheVariants.{Court}
use Rattle.docket_tables.proofs.CommitLemmas.{inside_then}
use Rattle.docket_tables.proofs.ContentsLemmas.{row_inserted, court_entered}
use Rattle.docket_tables.specs.Additions.{MayStand}
use Rattle.docket_tables.proofs.MakingCauses.{making_after}
use Rattle.docket_tables.proofs.ZoneLengths.{zone_short}
use Rattle.docket_tables.proofs.creation.define_docket.Goals as goal

pub returns-clause-inside : goal.returns-clause-inside
returns-clause-inside g c = inside_then _ _ _ c.define_all.ensures.inside c.insert.ensures.inside

pub returns-clause-ok : goal.returns-clause-ok
returns-clause-ok g c clean bare =
    let mid = state g.S.Store c.define_all.new.tx.conn.now in
    let last = state g.S.Store c.insert.new.tx.conn.now in
    let court = c.args.court.now in
    row_inserted c.insert.result mid last Court _ (court_cells court 1) no_rows (rows_in court (rows_of court [])) c.court_values.ensures refl
    (court_entered court) (c.insert.ensures.ok clean) (c.in_ok-define_all.ensures.ok (omega (arith, c.insert.ensures.inside.survives.clean)) bare)

-- the row of the court may stand where nothing does
court_may : (zone : List ℕ) (close : ℕ) → length zone ≤ 31 → close < 1440 → MayStand Court (court_cells (record { zone_text = zone; close_minute = close }) 1) no_rows
court_may zone close short early = record {
  storable = (refl, (omega arith, (refl, (omega (arith, short), (grind (arith, nat_tests, early), (refl, tt))))));
  alone = (tt, tt);
  parents = tt;
}

pub returns-clause-cause : goal.returns-clause-cause
returns-clause-cause g c clean bare begun =
    let start = state g.S.Store c.args.tx.now.conn.now in
    let mid = state g.S.Store c.define_all.new.tx.conn.now in
    let end = state g.S.Store c.insert.new.tx.conn.now in
    let court = c.args.court.now in
    let sees = c.in_ok-define_all.ensures.ok (omega (arith, clean, c.insert.ensures.inside.survives.clean)) bare in
    let short = zone_short court.zone_text c.zone_text-zone.ensures.zone in
    let early : court.close_minute < 1440 = omega (arith, c.close_minute-close.ensures.value, c.close_minute-close.ensures.limit) in
    let survives = c.define_all.ensures.inside.survives in
    IfErr-weaker c.insert.result _ _ (λ e h. making_after start mid end end e survives.counts (omega arith) survives.limit (λ _. sees.shows.is_open) (elim h [ inl caused ↦ inl caused | inr none ↦ absurd (true≢false none.1) ]))
    (c.insert.ensures.cause clean (rw c.court_values.ensures refl) no_rows sees (rw c.court_values.ensures (court_may court.zone_text court.close_minute short early)))
