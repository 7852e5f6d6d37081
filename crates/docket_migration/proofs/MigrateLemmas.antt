-- What the check and the change of the version leave of a database, one after the other.
use Rattle.std.proofs.Common.{◌≡◌, ◌≢◌, ◌∙◌, ◌≤◌, ◌⊎◌, inl, inr, ℕ, pos, [], ◌∷◌, true, false, append-nil, map, refl, sym, ap, subst, Result, Ok, Err, IfErr, OnErr, OnOk, arith}
use Rattle.sqlite.specs.Effect.{Database, IsDatabase}
use Rattle.sqlite.specs.Order.{Row, column}
use Rattle.sqlite.specs.Tree.{Trees}
use Rattle.sqlite.specs.declared.types.Value.TheVariants.{Int}
use Rattle.sqlite.specs.Store.{Ghosts}
use Rattle.sqlite.specs.State.{State, HasCleanDisk, IsUnchanged, Survives}
use Rattle.sqlite.specs.Held.{Held, state}
use Rattle.sqlite.specs.View.{doubt}
use Rattle.sqlite_schema.specs.Names.{same_name}
use Rattle.court_days.specs.Court.{CourtSettings}
use Rattle.docket_columns.specs.Cells.{court_cells, court_cells_of, settings_of, local_rule_cells, short_day_cells}
use Rattle.docket_columns.specs.declared.version.Version.{Version}
use Rattle.docket_columns.specs.declared.version.Version.TheVariants.{First, Second}
use Rattle.docket_history.specs.Histories.{History}
use Rattle.docket_history.specs.ShortDays.{short_day_rows}
use Rattle.docket_decisions.specs.Tables.{Tables, rows_of}
use Rattle.docket_tables.specs.Contents.{rows_by, rows_in}
use Rattle.docket_tables.specs.Layouts.{Rows, AreRowsIn}
use Rattle.docket_tables.specs.Schema.{schema_of}
use Rattle.docket_tables.specs.Stands.{HoldsRowsIn, IsSettledIn, MakesNothing}
use Rattle.docket_tables.specs.declared.table.Table.{Table}
use Rattle.docket_tables.specs.declared.table.Table.TheVariants.{Court, Calendar, Cases, Parties, Entries, Deadlines, Acts, Receipts, Due, ShortDays, LocalRules}
use Rattle.docket_scan.specs.Dockets.{IsFoundOfDocket, MayHold}
use Rattle.docket_scan.specs.Finding.{AreSound, HasCourt, IsTaken}
use Rattle.docket_scan.specs.Judging.{Holds, Rows as SoundRows, cells_in}
use Rattle.docket_scan.specs.Scans.{AreRowsOf}
use Rattle.docket_scan.specs.Shapes.{has_named, has_table}
use Rattle.docket_scan.specs.declared.fault.AdoptFault.{AdoptFault}
use Rattle.docket_scan.specs.declared.fault.AdoptFault.TheVariants.{NoMemory, StoreFailed}
use Rattle.docket_scan.specs.declared.finding.FoundDocket.{FoundDocket}
use Rattle.docket_scan.proofs.KindLemmas.{no_local_rules_made, no_short_days_made, sound_later}
use Rattle.docket_scan.proofs.LocalRuleLemmas.{no_local_rules}
use Rattle.docket_scan.proofs.ShortDayLemmas.{no_short_days}
use Rattle.docket_migration.specs.Changing.{IsEitherVersion}
use Rattle.docket_migration.specs.Growing.{IsNew}
use Rattle.docket_migration.specs.Keeping.{HasGone, IsCommitted, IsImageOfGone, seeing}
use Rattle.docket_migration.specs.Migrating.{HasMoved, KeepsImages, Migrates, Tells}
use Rattle.docket_migration.specs.Moving.{moved}
use Rattle.docket_migration.proofs.GoneLemmas.{gone_between}
use Rattle.docket_migration.proofs.KeepLemmas.{keeps_rows, named_once_before, there_still}
use Rattle.docket_migration.proofs.KeptReads.{one_row, there_in}

-- the rows of a docket without short days and local rules go from one version to the other
rows_moved : (court : CourtSettings) (t : Tables) → short_day_rows t.calendar ≡ [] → t.local_rules ≡ [] → moved court t.next_row (rows_by First court t) ≡ rows_in court t
rows_moved court t none no_rules = λ i table. same table i
  where
    same : (table : Table) → moved court t.next_row (rows_by First court t) table ≡ rows_in court t table
    same Court = refl
    same ShortDays = ap (map short_day_cells) (sym none)
    same LocalRules = ap (map local_rule_cells) (sym no_rules)
    same table = refl

pub moved_rows : (court : CourtSettings) (h : History) → MayHold First h → moved court (rows_of court h).next_row (rows_by First court (rows_of court h)) ≡ rows_in court (rows_of court h)
moved_rows court h may = rows_moved court (rows_of court h) (no_short_days_made h may) (no_local_rules_made h may)

-- a connection that is unchanged holds the rows still
still_settled : (v : Version) (old new : State) (rows : Rows) → Survives old new (λ _. ⊥) → HasCleanDisk new → IsSettledIn v old rows → IsUnchanged old new → IsSettledIn v new rows
still_settled v old new rows crash clean was same = record {
  idle = same.0.mode ∙ was.idle;
  shows = record {
    is_open = same.0.is_open;
    schema = ap (λ (d : Database). d.schema) same.0.now_is ∙ was.shows.schema;
    live = subst IsDatabase (sym same.0.now_is) was.shows.live;
    holds = subst (AreRowsIn v rows) (sym (ap (λ (d : Database). d.trees) same.0.now_is)) was.shows.holds;
  };
  committed = same.0.committed_is ∙ was.committed ∙ sym same.0.now_is;
  images = λ db may. elim (crash.crash clean db may) [ inl earlier ↦ was.images db earlier | inr none ↦ absurd none ];
}

-- a database that has moved from sound tables has sound ones

module _ (old new : State) (gone : HasGone old new) (court : CourtSettings) (rows : SoundRows) where
  holds_still : (next : ℕ) (t : Table) → t ≢ Court → Holds First old court next rows t → Holds Second new court next rows t
  holds_still next t other h =
      (there_still t old.now.schema new.now.schema gone.tables.more gone.tables.tables h.0, keeps_rows old new gone.tables t other h.0 (cells_in t rows) h.1, sound_later t court next rows (cells_in t rows) h.2)

  -- the row that was read is the court's
  has_court_still : (next : ℕ) → HasCourt First old court next → HasCourt Second new court next
  has_court_still next h =
      let there = there_in Court old.now.schema (named_once_before old.now.schema new.now gone.tables.more gone.tables.tables gone.tables.live) h.1.0 in
      let read = one_row Court old.now.schema old.now.schema [] (sym (append-nil old.now.schema.tables)) there old h.0 _ refl h.1.1 gone.was in
      let cells : court_cells_of First court next ≡ court_cells_of First (settings_of gone.court) gone.court.next_row = sym h.2.same ∙ read in
      let moved_cells : court_cells_of Second (settings_of gone.court) gone.court.next_row ≡ court_cells court next = ap in_second (sym cells) in (
        court_cells court next,
        (there_still Court old.now.schema new.now.schema gone.tables.more gone.tables.tables h.1.0, subst (λ row. AreRowsOf Court new (row ∷ [])) moved_cells gone.is, refl),
        record { same = refl; held = h.2.held; sound = h.2.sound },
      )
    where
      in_second : Row → Row
      in_second row = column row 0 ∷ column row 1 ∷ Int (pos 2) ∷ column row 3 ∷ column row 4 ∷ column row 5 ∷ []

  pub moved_from : AreSound First old court rows → HasMoved old new
  moved_from was =
      let n = was.next_row in
      let b = was.behind in
      let new_one : (t : Table) → IsNew t → has_table new.now.schema t ≡ true = gone.tables.there in
      record {
        court = court;
        rows = rows;
        was = was;
        is = record {
          next_row = n;
          has_court = has_court_still n was.has_court;
          only = tt;
          named = inr ([], gone.empty LocalRules (λ none. none), was.named);
          behind = (holds_still n Calendar (λ e. cc) b.0, (holds_still n Cases (λ e. cc) b.1.0, (holds_still n Parties (λ e. cc) b.1.1.0, (holds_still n Entries (λ e. cc) b.1.1.1.0, (holds_still n Deadlines (λ e. cc) b.1.1.1.1.0, (holds_still n Acts (λ e. cc) b.1.1.1.1.1.0, (holds_still n Receipts (λ e. cc) b.1.1.1.1.1.1.0, (holds_still n Due (λ e. cc) b.1.1.1.1.1.1.1.0, (no_short_days new court n rows was.only.0 b.0.2 (new_one ShortDays (λ none. none)) (gone.empty ShortDays (λ none. none)), (no_local_rules new court n rows was.only.1 (new_one LocalRules (λ none. none)) (gone.empty LocalRules (λ none. none)), tt))))))))));
        };
        next_row = refl;
        live = gone.tables.live;
      }

module _ {S : Type 0} (g : Ghosts S) (old mid : Held S) (crash : Survives (state g old) (state g mid) (λ _. ⊥)) where
  pub images_kept : KeepsImages g old mid
  images_kept clean db may = elim (crash.crash clean db may) [ inl before ↦ before | inr none ↦ absurd none ]

  since : HasCleanDisk (state g mid) → HasCleanDisk (state g old)
  since clean = omega (arith, crash.clean)

  nothing_written : mid.in_transaction ≡ false → MakesNothing g old mid
  nothing_written mode = (mode, images_kept)

  still_either : (rows next : Rows) → HoldsRowsIn g First old rows → mid.in_transaction ≡ false → IsEitherVersion g mid rows next
  still_either rows next was mode = (mode, λ clean db may. inl ((was.1 (since clean)).images db (images_kept clean db may)))

  -- the docket was not found
  pub not_found : (court : CourtSettings) (h : History) (fault : AdoptFault) → HoldsRowsIn g First old (rows_by First court (rows_of court h)) → mid.in_transaction ≡ false
      → (HasCleanDisk (state g mid) → IsFoundOfDocket court h (Err fault)) → Migrates g old mid court h (Err fault)
  not_found court h NoMemory was mode told = nothing_written mode
  not_found court h StoreFailed was mode told = still_either (rows_by First court (rows_of court h)) (rows_in court (rows_of court h)) was mode
  not_found court h fault was mode told = told

  pub told_not_found : (fault : AdoptFault) → (HasCleanDisk (state g mid) → IsTaken First (state g old) (state g mid) (Err fault)) → Tells g old mid (Err fault)
  told_not_found StoreFailed told = λ clean db may. inl (images_kept clean db may)
  told_not_found fault told = (images_kept, λ clean. (told clean).1)

  -- it was found
  module _ (found : FoundDocket) (told : HasCleanDisk (state g mid) → IsTaken First (state g old) (state g mid) (Ok found)) where
    pub still_holds : (rows : Rows) → HoldsRowsIn g First old rows → mid.in_transaction ≡ false → HoldsRowsIn g First mid rows
    still_holds rows was mode = (mode, λ clean. still_settled First (state g old) (state g mid) rows crash clean (was.1 (since clean)) (told clean).0)

    -- and has a court's table
    pub has_court : HasCleanDisk (state g mid) → has_table mid.schema Court ≡ true
    has_court clean = let it = told clean in subst (λ (d : Database). has_table d.schema Court ≡ true) (sym it.0.0.now_is) it.2.has_court.1.0

  -- and then the version was changed, or not
  module _ (end : Held S) (grows : doubt (state g mid).is_clean ≤ doubt (state g end).is_clean) where
    then_nothing : MakesNothing g mid end → MakesNothing g old end
    then_nothing it = (it.0, λ clean db may. images_kept (omega (arith, grows, clean)) db (it.1 clean db may))

    pub then_migrates : (court : CourtSettings) (h : History) (result : Result (Unit {0}) AdoptFault) → Migrates g mid end court h result → Migrates g old end court h result
    then_migrates court h (Ok done) it = it
    then_migrates court h (Err NoMemory) it = then_nothing it
    then_migrates court h (Err fault) it = it

    module _ (found : FoundDocket) (told : HasCleanDisk (state g mid) → IsTaken First (state g old) (state g mid) (Ok found)) where
      gone_on : HasCleanDisk (state g end) → (s : State) → HasGone (state g mid) s → HasMoved (state g old) s
      gone_on clean s it =
          let was = told (omega (arith, grows, clean)) in
          moved_from (state g old) s (gone_between (state g mid) (state g old) s s (sym was.0.0.now_is) refl it) found.court was.1 was.2

      then_failed : (fault : AdoptFault) → (fault ≡ NoMemory) ⊎ (fault ≡ StoreFailed) → (fault ≡ NoMemory → MakesNothing g mid end)
          → (HasCleanDisk (state g end) → (db : Trees) → (state g end).may_leave db → (state g mid).may_leave db ⊎ IsImageOfGone (state g mid) db) → Tells g old end (Err fault)
      then_failed fault (inl short) nothing may_go = subst (λ f. Tells g old end (Err f)) (sym short) ((then_nothing (nothing short)).1, λ clean. tt)
      then_failed fault (inr failed) nothing may_go = subst (λ f. Tells g old end (Err f)) (sym failed) (λ clean db may. elim (may_go clean db may) [
        | inl before ↦ inl (images_kept (omega (arith, grows, clean)) db before)
        | inr it ↦ inr (it.0, gone_on clean (seeing (state g old) it.0) (gone_between (state g mid) (state g mid) (seeing (state g mid) it.0) (seeing (state g old) it.0) refl refl it.1), it.2)
      ])

      pub then_told : (result : Result (Unit {0}) AdoptFault) → IfErr result (λ fault. (fault ≡ NoMemory) ⊎ (fault ≡ StoreFailed)) → (result ≡ Err NoMemory → MakesNothing g mid end)
          → (HasCleanDisk (state g end) → OnOk result (HasGone (state g mid) (state g end) × IsCommitted (state g end)))
          → (HasCleanDisk (state g end) → OnErr result ((db : Trees) → (state g end).may_leave db → (state g mid).may_leave db ⊎ IsImageOfGone (state g mid) db))
          → Tells g old end result
      then_told (Ok done) only nothing gone may_go = λ clean. (gone_on clean (state g end) (gone clean).0, (gone clean).1)
      then_told (Err fault) only nothing gone may_go = then_failed fault only (λ short. nothing (ap Err short)) may_go

-- the first version's schema has a table of a court
court_is_named : has_named (schema_of First) Court ≡ true
unfolding same_name
court_is_named = refl

pub not_unnamed : {S : Type 0} (g : Ghosts S) (c : Held S) (rows : Rows) → HoldsRowsIn g First c rows → HasCleanDisk (state g c) → has_named c.schema Court ≡ false → ⊥
not_unnamed g c rows holds clean none = let there = subst (λ s. has_named s Court ≡ true) (sym (holds.1 clean).shows.schema) court_is_named in cc
