-- A docket's own court is found, and its docket with it.
use Rattle.std.proofs.Common.{◌≡◌, ◌∙◌, inl, inr, ℕ, List, [], ◌∷◌, length, Result, Ok, Err, true, IsSome, IsPermutation, ◌≤◌, ◌==◌, ◌&&◌, refl, sym, ap, subst, subst₂, arith, nat_le}
use base.Stored.{Coded-set}
use Rattle.std.proofs.Math.Logic.{∥∥₁_elim}
use Rattle.std.proofs.lemmas.Bool.{false≢true}
use Rattle.std.proofs.lemmas.Bool.Decides.{nat_tests}
use Rattle.std.proofs.lemmas.List.Sorted.{length_permutation}
use Rattle.std.specs.Coded.{coded_ℕ, coded_list}
use Rattle.std.specs.List.{AllByRecursion}
use Rattle.sqlite.specs.Held.{Held, state}
use Rattle.sqlite.specs.Order.{Row, column}
use Rattle.sqlite.specs.State.{State, HasCleanDisk}
use Rattle.sqlite.specs.Store.{Ghosts}
use Rattle.sqlite_schema.specs.Names.{same_name}
use Rattle.sqlite_trees.proofs.ListLemmas.{all-permutation}
use Rattle.civil_time.specs.ZoneText.{zone_at}
use Rattle.court_days.specs.Court.{CourtSettings}
use Rattle.docket_history.specs.Histories.{History, next_row}
use Rattle.docket_decisions.specs.Outcomes.{IsHistory}
use Rattle.docket_decisions.specs.Tables.{rows_of}
use Rattle.docket_decisions.proofs.LimitsKept.{within_limits}
use Rattle.docket_columns.specs.Cells.{court_cells_of}
use Rattle.docket_columns.specs.declared.version.Version.{Version}
use Rattle.docket_columns.specs.declared.version.Version.TheVariants.{First, Second}
use Rattle.docket_wire.specs.Valid.{IsCommand}
use Rattle.docket_tables.specs.Contents.{rows_by}
use Rattle.docket_tables.specs.Orderly.{IsCourtSettings}
use Rattle.docket_tables.specs.Schema.{schema_of}
use Rattle.docket_tables.specs.Stands.{ShowsIn, HoldsRowsIn}
use Rattle.docket_tables.specs.Tables.{IsTableOf}
use Rattle.docket_tables.specs.declared.table.Table.{Table}
use Rattle.docket_tables.specs.declared.table.Table.TheVariants as table
use Rattle.docket_scan.specs.Courts.{AreMarked, IsCourtsRow, IsRowOf}
use Rattle.docket_scan.specs.Dockets.{IsFoundOfDocket, IsToldOfDocket, MayHold}
use Rattle.docket_scan.specs.Finding.{HasCourtRow, IsDamaged, IsFirstUnsound, IsEmpty, IsNoDocket, IsOfOtherVersion, IsTaken}
use Rattle.docket_scan.specs.Holdings.{holdings_of}
use Rattle.docket_scan.specs.Judging.{IsBehindCourt, AreJudged, StaysOpen}
use Rattle.docket_scan.specs.Scans.{AreRowsOf}
use Rattle.docket_scan.specs.Shapes.{has_named, has_table}
use Rattle.docket_scan.specs.declared.fault.AdoptFault.{AdoptFault}
use Rattle.docket_scan.specs.declared.fault.AdoptFault.TheVariants.{Empty, NotADocket, OtherVersion, Damaged, NoMemory, StoreFailed}
use Rattle.docket_scan.specs.declared.finding.FoundDocket.{FoundDocket}
use Rattle.docket_scan.specs.declared.holdings.Holdings.{Holdings}
use Rattle.docket_scan.proofs.DocketJudged.{docket_told, in_order, never_unsound, rows_of_docket, shows_docket}
use Rattle.docket_scan.proofs.DocketReads.{AreSorted, never_unreadable, rows_sorted}
use Rattle.docket_scan.proofs.DocketStatements.{is_there}
use Rattle.docket_scan.proofs.JudgingLemmas.{each_has}

is_named : (v : Version) → has_named (schema_of v) table.Court ≡ true
unfolding same_name
is_named First = refl
is_named Second = refl

-- one row stands in one order alone
only_row : (row : Row) (found : List Row) → IsPermutation (row ∷ []) found → found ≡ row ∷ []
only_row row found same = at found (length_permutation _ _ same) (all-permutation (λ x. x ≡ row) (row ∷ []) found same (refl, tt))
  where
    at : (rows : List Row) → length rows ≡ 1 → AllByRecursion (λ x. x ≡ row) rows → rows ≡ row ∷ []
    at [] few all = absurd cc
    at (x ∷ []) few all = ap (λ y. y ∷ []) all.0
    at (x ∷ y ∷ more) few all = absurd cc

some_next : (h : History) → 1 ≤ next_row h
some_next [] = omega arith
some_next (c ∷ h) = omega (arith, some_next h)

module _ (v : Version) (s : State) (court : CourtSettings) (h : History) (settings : IsCourtSettings court) (zone : IsSome (zone_at court.zone_text)) (is : IsHistory court h) (shows : ShowsIn v s (rows_of_docket v court h)) where
  has_court : IsTableOf v table.Court
  has_court = each_has v table.Court tt

  numbered : 1 ≤ next_row h → next_row h ≤ 4_294_967_296 → (nat_le 1 (next_row h) ≡ true) × (nat_le (next_row h) 4_294_967_296 ≡ true)
  numbered low high = (grind (arith, nat_tests), grind (arith, nat_tests))

  own_row : IsRowOf v (court_cells_of v court (next_row h)) court (next_row h)
  own_row =
      let most = (within_limits court h is).next_row in
      let numbers = numbered (some_next h) most in
      record {
        same = refl;
        held = (settings.0, settings.1, omega (arith, most));
        sound = record { numbers = subst₂ (λ a b. (1 == 1) && a && b ≡ true) (sym numbers.0) (sym numbers.1) refl; zone = zone; close = settings.1 };
      }

  -- the table holds that row alone
  only_own : (row : Row) → AreRowsOf table.Court s (row ∷ []) → (row ≡ court_cells_of v court (next_row h) → ⊥) → ⊥
  only_own row read other =
      in_order v s (rows_of_docket v court h) shows table.Court has_court (row ∷ []) read (λ it. other (let e = only_row (court_cells_of v court (next_row h)) (row ∷ []) it.same in cc))

  never_empty : IsEmpty s → ⊥
  never_empty (inl missing) = false≢true (sym missing ∙ ap (λ d. has_named d table.Court) shows.schema ∙ is_named v)
  never_empty (inr (there, unreadable)) = never_unreadable v table.Court has_court s shows.schema unreadable

  marked : (found : List Row) → AreSorted table.Court (court_cells_of v court (next_row h) ∷ []) found → AreMarked found
  marked found it = (court_cells_of v court (next_row h), only_row (court_cells_of v court (next_row h)) found it.same, refl)

  never_another : IsNoDocket s → ⊥
  never_another (named, inl lacks) = false≢true (sym lacks ∙ ap (λ d. has_table d table.Court) shows.schema ∙ is_there v table.Court has_court)
  never_another (named, inr unsound) = never_unsound v s (rows_of_docket v court h) shows table.Court has_court AreMarked marked (inr (inr unsound))

  never_older : IsOfOtherVersion v s → ⊥
  never_older (row, has, other) = only_own row has.1 (λ same. other (ap (λ r. column r 2) same))

  never_odd : (row : Row) → HasCourtRow s row → (IsCourtsRow v row → ⊥) → ⊥
  never_odd row has other = only_own row has.1 (λ same. other (court, next_row h, subst (λ r. IsRowOf v r court (next_row h)) (sym same) own_row))

  -- a row of a court that is read there holds the docket's own court and number
  module _ (found : CourtSettings) (next : ℕ) (row : Row) (read : AreRowsOf table.Court s (row ∷ [])) (same : row ≡ court_cells_of v found next) where
    sorted : ∥ AreSorted table.Court (court_cells_of v court (next_row h) ∷ []) (row ∷ []) ∥₁
    sorted = rows_sorted v table.Court has_court s shows.schema (rows_of_docket v court h) shows.holds (row ∷ []) read

    cells : AreSorted table.Court (court_cells_of v court (next_row h) ∷ []) (row ∷ []) → court_cells_of v found next ≡ court_cells_of v court (next_row h)
    cells it = let e = only_row (court_cells_of v court (next_row h)) (row ∷ []) it.same in cc

    zone_told : found.zone_text ≡ court.zone_text
    zone_told = ∥∥₁_elim sorted (Coded-set (coded_list coded_ℕ) _ _) (λ it. let e = cells it in cc)

    close_told : found.close_minute ≡ court.close_minute
    close_told = ∥∥₁_elim sorted (Coded-set coded_ℕ _ _) (λ it. let e = cells it in cc)

    next_told : next ≡ next_row h
    next_told = ∥∥₁_elim sorted (Coded-set coded_ℕ _ _) (λ it. let e = cells it in cc)

    court_told : found ≡ court
    court_told = λ i. record { zone_text = zone_told i; close_minute = close_told i }

-- so the docket of a history is found as it is
pub docket_found : {S : Type 0} (g : Ghosts S) (v : Version) (old : Held S) (new : State) (result : Result FoundDocket AdoptFault)
    → HasCleanDisk (state g old) → IsTaken v (state g old) new result
    → (court : CourtSettings) (h : History) → IsCourtSettings court → IsSome (zone_at court.zone_text) → IsHistory court h → AllByRecursion IsCommand h
    → MayHold v h → HoldsRowsIn g v old (rows_by v court (rows_of court h)) → IsFoundOfDocket court h result
docket_found g v old new result clean taken court h settings zone is commands only holds = at result taken
  where
    s : State
    s = state g old

    shows : ShowsIn v s (rows_of_docket v court h)
    shows = shows_docket v s court h (holds.1 clean).shows

    told : (found : CourtSettings) (next : ℕ) (judged : Result Holdings AdoptFault) → found ≡ court → next ≡ next_row h
        → AreJudged v found next s new (λ r held. held ≡ holdings_of found r) judged → IsToldOfDocket court h judged
    told found next judged same numbered it =
        docket_told g v old new court next judged clean (subst (λ k. AreJudged v k next s new (λ r held. held ≡ holdings_of k r) judged) same it) h is commands only numbered holds

    behind : (t : Table) → IsBehindCourt v t → StaysOpen s new → IsFirstUnsound v t s → ⊥
    behind t is_behind stays (found, next, (row, has, row_of), r, named, all, unsound) =
        told found next (Err (Damaged t)) (court_told v s court h settings zone is shows found next row has.1 row_of.same) (next_told v s court h settings zone is shows found next row has.1 row_of.same) (is_behind, stays, r, named, all, unsound)

    damaged : (t : Table) → StaysOpen s new → IsDamaged v t s → ⊥
    damaged table.Court stays (row, has, current, other) = never_odd v s court h settings zone is shows row has other
    damaged t stays cause = behind t cause.0 stays cause.1

    at : (r : Result FoundDocket AdoptFault) → IsTaken v s new r → IsFoundOfDocket court h r
    at (Ok found) (same, r, sound, held) =
        let row_of = sound.has_court.2 in
        let is_court = court_told v s court h settings zone is shows found.court sound.next_row sound.has_court.0 sound.has_court.1.1 row_of.same in
        let is_next = next_told v s court h settings zone is shows found.court sound.next_row sound.has_court.0 sound.has_court.1.1 row_of.same in
        (is_court, told found.court sound.next_row (Ok found.held) is_court is_next (same, r, sound.only, sound.named, sound.behind, held))
    at (Err Empty) (left, cause) = never_empty v s court h settings zone is shows cause
    at (Err NotADocket) (left, cause) = never_another v s court h settings zone is shows cause
    at (Err OtherVersion) (left, cause) = never_older v s court h settings zone is shows cause
    at (Err (Damaged t)) (left, cause) = damaged t left cause
    at (Err NoMemory) told = tt
    at (Err StoreFailed) told = tt
