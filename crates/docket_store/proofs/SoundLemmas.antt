-- The rows of tables that are sound: those of a docket, to which a command can be applied.
use Rattle.std.proofs.Common.{◌≡◌, ◌∙◌, ℤ, pos, List, [], ◌∷◌, map, map-id, Some, IsPermutation, refl, sym, ap, arith}
use Rattle.std.proofs.Math.Logic.{∥∥₁_elim, ∥∥₁_map}
use Rattle.std.proofs.lemmas.List.Sorted.{IsPermutation-sym}
use Rattle.std.specs.List.{AllByRecursion}
use Rattle.sqlite.proofs.Callers.{one_permutation}
use Rattle.sqlite.specs.Order.{Row, column}
use Rattle.sqlite.specs.State.{State}
use Rattle.sqlite.specs.declared.types.Value.{Value}
use Rattle.sqlite.specs.declared.types.Value.TheVariants.{Int}
use Rattle.sqlite_trees.proofs.ListLemmas.{all-map, all-permutation, all_of, all_weaker, map-map}
use Rattle.sqlite_trees.specs.Objects.{number_in}
use Rattle.sqlite_trees.specs.Props.{rows_set}
use Rattle.court_days.specs.Court.{CourtSettings}
use Rattle.docket_columns.specs.Cells.{calendar_cells, end_cells, short_day_cells}
use Rattle.docket_columns.specs.declared.version.Version.TheVariants.{Second}
use Rattle.docket_decisions.specs.declared.end_row.StoredEnd.{StoredEnd}
use Rattle.docket_scan.proofs.DocketReads.{rows_sorted}
use Rattle.docket_scan.specs.Finding.{AreSound}
use Rattle.docket_scan.specs.Judging.{Rows as SoundRows}
use Rattle.docket_scan.specs.Scans.{AreRowsOf}
use Rattle.docket_tables.specs.Holds.{IsKeyed}
use Rattle.docket_tables.specs.Layouts.{Rows}
use Rattle.docket_tables.specs.Stands.{Shows}
use Rattle.docket_tables.specs.declared.table.Table.{Table}
use Rattle.docket_tables.specs.declared.table.Table.TheVariants as table
use Rattle.docket_store.specs.Opening.{TakeCommands}

-- two functions that agree on each row of a list
module _ (f g : Row → Row) where
  agree : (rows : List Row) → AllByRecursion (λ row. f row ≡ g row) rows → map f rows ≡ map g rows
  agree [] each = refl
  agree (row ∷ rows) each = rw (each.0, agree rows each.1) refl

  each_agrees : (rows : List Row) → map f rows ≡ map g rows → AllByRecursion (λ row. f row ≡ g row) rows
  each_agrees [] same = tt
  each_agrees (row ∷ rows) same =
      let head : f row ≡ g row = cc in
      let rest : map f rows ≡ map g rows = cc in
      (head, each_agrees rows rest)

-- the values in the cells of a row
abbrev whole_in : Value → ℤ
whole_in (Int z) = z
whole_in _ = pos 0

abbrev end_in : Row → StoredEnd
end_in row = record { case = number_in (column row 0); deadline = number_in (column row 1); end = record { day = number_in (column row 2); moment = Some (whole_in (column row 3)) } }

abbrev first_cell : Row → Row
first_cell row = column row 0 ∷ []

abbrev whole_cell : Row → Row
whole_cell row = Int (whole_in (column row 0)) ∷ []

keyed : (row : Row) → first_cell row ≡ whole_cell row → IsKeyed row
keyed row same = (whole_in (column row 0), let is : column row 0 ≡ Int (whole_in (column row 0)) = cc in is)

-- a connection that shows rows in a docket's schema
module _ (s : State) (rows : Rows) (shows : Shows s rows) where
  -- the rows of a table are those that were read of it, in some order
  read_rows : (t : Table) (found : List Row) → AreRowsOf t s found → ∥ IsPermutation found (rows t) ∥₁
  read_rows t found read = ∥∥₁_map (rows_sorted Second t tt s shows.schema rows shows.holds found read) (λ it. IsPermutation-sym (rows t) found it.same)

  one_row : (t : Table) (row : Row) → AreRowsOf t s (row ∷ []) → rows t ≡ row ∷ []
  one_row t row read = ∥∥₁_elim (read_rows t (row ∷ []) read) (rows_set _ _) (one_permutation row (rows t))

  -- so functions that agree on those agree on these
  still_agree : (f g : Row → Row) (t : Table) (found : List Row) → AreRowsOf t s found → AllByRecursion (λ row. f row ≡ g row) found → map f (rows t) ≡ map g (rows t)
  still_agree f g t found read each =
      ∥∥₁_elim (read_rows t found read) (rows_set _ _) (λ same. agree f g (rows t) (all-permutation (λ row. f row ≡ g row) found (rows t) same each))

  all_keyed : {R : Type 0} (t : Table) (cells : R → Row) (records : List R) → ((r : R) → first_cell (cells r) ≡ whole_cell (cells r)) → AreRowsOf t s (map cells records) → AllByRecursion IsKeyed (rows t)
  all_keyed {R} t cells records numbered read =
      let each = all-map (λ row. first_cell row ≡ whole_cell row) cells records (all_of (λ (r : R). first_cell (cells r) ≡ whole_cell (cells r)) numbered records) in
      all_weaker (λ row. first_cell row ≡ whole_cell row) IsKeyed keyed (rows t) (each_agrees first_cell whole_cell (rows t) (still_agree first_cell whole_cell t (map cells records) read each))

  ends_told : (ends : List StoredEnd) → AreRowsOf table.Due s (map end_cells ends) → rows table.Due ≡ map end_cells (map end_in (rows table.Due))
  ends_told ends read =
      let again : Row → Row = λ row. end_cells (end_in row) in
      let each = all-map (λ row. row ≡ again row) end_cells ends (all_of (λ (r : StoredEnd). end_cells r ≡ again (end_cells r)) (λ r. refl) ends) in
      sym (map-id (rows table.Due)) ∙ still_agree (λ row. row) again table.Due (map end_cells ends) read each ∙ sym (map-map end_cells end_in (rows table.Due))

  pub sound_rows : (court : CourtSettings) (r : SoundRows) → AreSound Second s court r → TakeCommands court rows
  sound_rows court r sound =
      let its = sound.has_court in
      let stand = sound.behind in (
        sound.next_row,
        map end_in (rows table.Due),
        record {
          court = one_row table.Court its.0 its.1.1 ∙ ap (λ row. row ∷ []) its.2.same;
          keyed = all_keyed table.Calendar calendar_cells r.calendar (λ row. refl) stand.0.1;
          keyed_short = all_keyed table.ShortDays short_day_cells r.short_days (λ row. refl) stand.1.1.1.1.1.1.1.1.0.1;
          ends = ends_told r.ends stand.1.1.1.1.1.1.1.0.1;
        },
        omega (arith, its.2.held.2),
      )
