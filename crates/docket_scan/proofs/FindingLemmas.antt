-- What the table of the court, and then the others, show of a database.
use Rattle.std.proofs.Common.{◌≡◌, ◌∙◌, ◌⊎◌, inl, inr, ℕ, List, Result, Ok, Err, true, IsErrAnd, refl, sym, ap, subst}
use Rattle.std.specs.List.{AllByRecursion}
use Rattle.sqlite.specs.Order.{Row}
use Rattle.sqlite.specs.State.{State, IsUnchanged}
use Rattle.sqlite.specs.declared.error.Error.{Error}
use Rattle.sqlite.specs.declared.error.Error.TheVariants.{SqliteFailure, SqlInputError}
use Rattle.sqlite.specs.declared.error.ErrorCode.TheVariants.{TypeMismatch, IntegerOverflow, OutOfMemory}
use Rattle.sqlite.proofs.Callers.{unchanged_then}
use Rattle.court_days.specs.Court.{CourtSettings}
use Rattle.docket_columns.specs.Cells.{court_cells_of}
use Rattle.docket_columns.specs.declared.version.Version.{Version}
use Rattle.docket_sound.specs.Courts.{IsSoundCourt, settings_of}
use Rattle.docket_sound.specs.declared.court.CourtRecord.{CourtRecord}
use Rattle.docket_tables.specs.declared.table.Table.{Table}
use Rattle.docket_tables.specs.declared.table.Table.TheVariants as table
use Rattle.docket_scan.specs.Courts.{IsCourtsRow, record_of}
use Rattle.docket_scan.specs.Finding.{AreSound, HasCourt, IsDamaged, IsNotTaken, IsTaken, ReadsCourt, court_fault}
use Rattle.docket_scan.specs.Holdings.{holdings_of}
use Rattle.docket_scan.specs.Judging.{AreSoundBy, FailsAt, Holds, IsBehindCourt, IsUnsoundIn, AreJudged, Rows, before, behind_court}
use Rattle.docket_scan.specs.Names.{AreNamesFor}
use Rattle.docket_scan.specs.Scans.{AreRowsOf, FailsToScan}
use Rattle.docket_scan.specs.Shapes.{has_named, has_table}
use Rattle.docket_scan.specs.Taken.{Finishes}
use Rattle.docket_scan.specs.declared.fault.AdoptFault.{AdoptFault}
use Rattle.docket_scan.specs.declared.fault.AdoptFault.TheVariants.{NotADocket, OtherVersion, Damaged, NoMemory, StoreFailed}
use Rattle.docket_scan.specs.declared.finding.FoundDocket.{FoundDocket}
use Rattle.docket_scan.proofs.JudgingLemmas.{holds_before, named_before, stays_open, unsound_before}
use Rattle.docket_scan.proofs.ScanLemmas.{stays_then}

-- an error in the reading of the court's table
pub court_failed : (v : Version) (old new : State) (e : Error) → has_table old.now.schema table.Court ≡ true → FailsToScan table.Court old new e → IsNotTaken v old new (court_fault e)
court_failed v old new (SqlInputError why) there h = (λ _. (h.1 refl).1, inr (there, (h.1 refl).0))
court_failed v old new (SqliteFailure TypeMismatch) there h = (λ _. (h.1 refl).1, inr (there, (h.1 refl).0))
court_failed v old new (SqliteFailure IntegerOverflow) there h = (λ _. (h.1 refl).1, inr (there, (h.1 refl).0))
court_failed v old new (SqliteFailure OutOfMemory) there h = (h.0, tt)
court_failed v old new _ there h = (h.0, tt)

-- the result of reading its rows
pub finished : (v : Version) (old new : State) (rows : List Row) (r : Result CourtRecord AdoptFault) → has_named old.now.schema table.Court ≡ true → has_table old.now.schema table.Court ≡ true → IsUnchanged old new
    → AreRowsOf table.Court old rows → Finishes v rows r → ReadsCourt v old new r
finished v old new rows (Ok r) named there same read (court, is, held, row) =
    (same, court, (there, subst (AreRowsOf table.Court old) is read, refl), held, row)
finished v old new rows (Err NotADocket) named there same read unmarked = (λ _. same, (named, inr (inr (rows, read, unmarked))))
finished v old new rows (Err OtherVersion) named there same read (row, is, word, other) = (λ _. same, (row, (there, subst (AreRowsOf table.Court old) is read, word), other))
finished v old new rows (Err (Damaged table.Court)) named there same read (row, is, word, current, none) =
    (λ _. same, (row, (there, subst (AreRowsOf table.Court old) is read, word), current, λ of_court. none of_court.0 of_court.1 of_court.2.held of_court.2.same))
finished v old new rows (Err _) named there same read never = absurd never

-- a fault that is passed on
pub not_taken : (v : Version) (old new : State) (r : Result FoundDocket AdoptFault) (fault : AdoptFault) → IsErrAnd r (λ f. f ≡ fault) → IsNotTaken v old new fault → IsTaken v old new r
not_taken v old new (Ok x) fault same told = absurd same
not_taken v old new (Err f) fault same told = subst (IsNotTaken v old new) (sym same) told

module _ (first old : State) (same : IsUnchanged first old) where
  -- the tables behind the court's, where that is sound
  module _ (v : Version) (court : CourtSettings) (next : ℕ) (has : HasCourt v first court next) where
    damaged : (t : Table) → IsBehindCourt v t → (r : Rows) → AreNamesFor v old r.names → AllByRecursion (Holds v old court next r) (before t) → IsUnsoundIn t old (AreSoundBy v t court next r) → IsDamaged v t first
    damaged table.Court behind r named all unsound = absurd behind
    damaged t behind r named all unsound =
        (behind, (court, next, has, r, named_before first old same v r.names named, holds_before first old same v court next r (before t) all, unsound_before first old same t (AreSoundBy v t court next r) unsound))

    pub judged_fault : (new : State) (fault : AdoptFault) → FailsAt v court next old new fault → IsNotTaken v first new fault
    judged_fault new (Damaged t) (behind, stays, r, named, all, unsound) = (stays_open first old same new stays, damaged t behind r named all unsound)
    judged_fault new NoMemory left = (stays_then first old new same left, tt)
    judged_fault new StoreFailed left = (stays_then first old new same left, tt)
    judged_fault new _ never = absurd never

    pub judged_sound : (new : State) (found : FoundDocket) → found.court ≡ court → AreJudged v court next old new (λ r held. held ≡ holdings_of court r) (Ok found.held) → IsTaken v first new (Ok found)
    judged_sound new found is (still, r, only, named, all, held) = (
      unchanged_then first old new same still,
      r,
      subst (λ k. AreSound v first k r) (sym is) (record {
        next_row = next;
        has_court = has;
        only = only;
        named = named_before first old same v r.names named;
        behind = holds_before first old same v court next r (behind_court v) all;
      }),
      held ∙ ap (λ k. holdings_of k r) (sym is),
    )

-- the row of a court was read, and its court is refused or sound
pub court_refused : (v : Version) (old new : State) (r : CourtRecord) (fault : AdoptFault) → ReadsCourt v old new (Ok r) → (fault ≡ NoMemory) ⊎ ((fault ≡ Damaged table.Court) × (IsSoundCourt r → ⊥)) → IsNotTaken v old new fault
court_refused v old new r fault (same, court, has, held, is) (inl short) = subst (IsNotTaken v old new) (sym short) (inl same, tt)
court_refused v old new r fault (same, court, has, held, is) (inr (damaged, never)) =
    subst (IsNotTaken v old new) (sym damaged) (λ _. same, (court_cells_of v court r.next_row, has, refl, of_none))
  where
    of_none : IsCourtsRow v (court_cells_of v court r.next_row) → ⊥
    of_none (other, next, it) =
        let zone : other.zone_text ≡ court.zone_text = let e = it.same in cc in
        let close : other.close_minute ≡ court.close_minute = let e = it.same in cc in
        let number : next ≡ r.next_row = let e = it.same in cc in
        let rows : record_of other next ≡ record_of court r.next_row = λ i. record { id = 1; zone = zone i; close = close i; next_row = number i } in
        never (subst IsSoundCourt (rows ∙ sym is) it.sound)

pub court_had : (v : Version) (old new : State) (r : CourtRecord) (judged : CourtSettings) → ReadsCourt v old new (Ok r) → IsSoundCourt r × (judged ≡ settings_of r) → HasCourt v old judged r.next_row
court_had v old new r judged (same, court, has, held, is) (sound, told) =
    let whole : judged ≡ court = told ∙ ap settings_of is in
    subst (λ k. HasCourt v old k r.next_row) (sym whole) (court_cells_of v court r.next_row, has, record { same = refl; held = held; sound = subst IsSoundCourt is sound })
