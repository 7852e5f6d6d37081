-- Tables that are checked one after another.
use Rattle.std.proofs.Common.{◌≡◌, ◌∙◌, inl, inr, ℕ, List, [], ◌∷◌, ◌++◌, map, length, Result, Ok, Err, true, IfErr, IsErrAnd, ap, sym, subst, refl}
use Rattle.std.proofs.lemmas.List.{length-map}
use Rattle.std.specs.List.{AllByRecursion}
use Rattle.sqlite.specs.Effect.{Database}
use Rattle.sqlite.specs.Held.{Held, state}
use Rattle.sqlite.specs.Order.{Row}
use Rattle.sqlite.specs.State.{State, IsUnchanged}
use Rattle.sqlite.specs.Store.{Ghosts}
use Rattle.sqlite.specs.declared.error.Error.{Error}
use Rattle.sqlite.specs.declared.error.Error.TheVariants.{SqliteFailure, SqlInputError}
use Rattle.sqlite.specs.declared.error.ErrorCode.TheVariants.{TypeMismatch, IntegerOverflow, OutOfMemory}
use Rattle.sqlite.proofs.Callers.{unchanged_then}
use Rattle.court_days.specs.Court.{CourtSettings}
use Rattle.docket_columns.specs.declared.version.Version.{Version}
use Rattle.docket_columns.specs.declared.version.Version.TheVariants.{First, Second}
use Rattle.docket_tables.specs.Tables.{IsTableOf}
use Rattle.docket_tables.specs.declared.table.Table.{Table}
use Rattle.docket_tables.specs.declared.table.Table.TheVariants as table
use Rattle.docket_scan.specs.Judging.{fault_in, IsSoundIn, IsUnsoundIn, IsTold, IsJudged, AreJudged, FailsAt, Holds, IsBehindCourt, Rows, AreSoundBy, StaysOpen, before}
use Rattle.docket_scan.specs.Holdings.{holdings_of}
use Rattle.docket_scan.specs.Names.{AreNamesFor, AreNamesIn}
use Rattle.docket_scan.specs.Reading.{AreRead, IsStill, SaysLast}
use Rattle.docket_scan.specs.Records.{IsTable}
use Rattle.docket_scan.specs.Scans.{AreRowsOf, FailsToScan, OfSoMany}
use Rattle.docket_scan.specs.Shapes.{has_table}
use Rattle.docket_scan.specs.Taken.{IsRead}
use Rattle.docket_scan.specs.declared.fault.AdoptFault.{AdoptFault}
use Rattle.docket_scan.specs.declared.fault.AdoptFault.TheVariants.{Damaged, NoMemory, StoreFailed}
use Rattle.docket_scan.specs.declared.reading.LastRead.{LastRead}
use Rattle.docket_scan.proofs.ScanLemmas.{stays_then}

-- a table of the first version is one of each
pub each_has : (v : Version) (t : Table) → IsTableOf First t → IsTableOf v t
each_has First t is = is
each_has Second t is = tt

-- what is read of a database alone holds of each state that shows it
abbrev pub with_now : State → Database → State
with_now s d = record s { now = d }

module _ (first old : State) (same : IsUnchanged first old) where
  pub unsound_before : (t : Table) (AreSound : List Row → Type 0) → IsUnsoundIn t old AreSound → IsUnsoundIn t first AreSound
  unsound_before t AreSound h = subst (λ (d : Database). IsUnsoundIn t (with_now first d) AreSound) same.0.now_is h

  pub sound_before : (t : Table) (AreSound : List Row → Type 0) → IsSoundIn t old AreSound → IsSoundIn t first AreSound
  sound_before t AreSound h = subst (λ (d : Database). IsSoundIn t (with_now first d) AreSound) same.0.now_is h

  -- a table that is reported unsound, after those before it
  pub failed : (v : Version) (t : Table) → IsBehindCourt v t → (court : CourtSettings) (next : ℕ) (new : State) (r : Rows) (AreSound : List Row → Type 0) (fault : AdoptFault)
      → AreSound ≡ AreSoundBy v t court next r → AreNamesFor v first r.names → AllByRecursion (Holds v first court next r) (before t) → IsTold t old new AreSound fault → FailsAt v court next first new fault
  failed v t behind court next new r AreSound (Damaged at) is named all told =
      subst (λ u. FailsAt v court next first new (Damaged u)) (sym told.0)
      (behind, λ opened. unchanged_then first old new same (told.1 same.0.is_open), r, named, all, unsound_before t (AreSoundBy v t court next r) (subst (IsUnsoundIn t old) is told.2))
  failed v t behind court next new r AreSound NoMemory is named all told = stays_then first old new same told
  failed v t behind court next new r AreSound StoreFailed is named all told = stays_then first old new same told
  failed v t behind court next new r AreSound _ is named all told = absurd told

-- what an error in reading a table means
pub told_in : (t : Table) (old new : State) (AreSound : List Row → Type 0) (e : Error) → FailsToScan t old new e → IsTold t old new AreSound (fault_in t e)
told_in t old new AreSound (SqlInputError why) h = (refl, λ _. (h.1 refl).1, inr (inl (h.1 refl).0))
told_in t old new AreSound (SqliteFailure TypeMismatch) h = (refl, λ _. (h.1 refl).1, inr (inl (h.1 refl).0))
told_in t old new AreSound (SqliteFailure IntegerOverflow) h = (refl, λ _. (h.1 refl).1, inr (inl (h.1 refl).0))
told_in t old new AreSound (SqliteFailure OutOfMemory) h = h.0
told_in t old new AreSound _ h = h.0

-- the same of the first table
pub failed_first : (v : Version) (court : CourtSettings) (next : ℕ) (old new : State) (r : Rows) (AreSound : List Row → Type 0) (fault : AdoptFault)
    → AreSound ≡ AreSoundBy v table.Calendar court next r → AreNamesFor v old r.names → IsTold table.Calendar old new AreSound fault → FailsAt v court next old new fault
failed_first v court next old new r AreSound (Damaged at) is named told =
    subst (λ u. FailsAt v court next old new (Damaged u)) (sym told.0) (each_has v table.Calendar tt, told.1, r, named, tt, subst (IsUnsoundIn table.Calendar old) is told.2)
failed_first v court next old new r AreSound NoMemory is named told = told
failed_first v court next old new r AreSound StoreFailed is named told = told
failed_first v court next old new r AreSound _ is named told = absurd told

-- a fault that is passed on
pub handed : {X : Type 0} (r : Result X AdoptFault) (fault : AdoptFault) (Fails : AdoptFault → Type 0) → IsErrAnd r (λ f. f ≡ fault) → Fails fault → IfErr r Fails
handed (Ok x) fault Fails same told = absurd same
handed (Err f) fault Fails same told = subst Fails (sym same) told

-- the same for the result of reading one table
pub told_on : {X : Type 0} (t : Table) (old new : State) (found : X → Type 0) (AreSound : List Row → Type 0) (r : Result X AdoptFault) (fault : AdoptFault)
    → IsErrAnd r (λ f. f ≡ fault) → IsTold t old new AreSound fault → IsJudged t old new found AreSound r
told_on t old new found AreSound (Ok x) fault same told = absurd same
told_on t old new found AreSound (Err f) fault same told = subst (IsTold t old new AreSound) (sym same) told

-- and for the result of all tables
pub told_of : {X : Type 0} (v : Version) (court : CourtSettings) (next : ℕ) (old new : State) (says : Rows → X → Type 0) (r : Result X AdoptFault) (fault : AdoptFault)
    → IsErrAnd r (λ f. f ≡ fault) → FailsAt v court next old new fault → AreJudged v court next old new says r
told_of v court next old new says (Ok x) fault same told = absurd same
told_of v court next old new says (Err f) fault same told = subst (FailsAt v court next old new) (sym same) told

-- the rows that were read stand in the table, and are sound; they are this many records
module _ {R : Type 0} (t : Table) (s : State) (Is : R → Type 0) (cells : R → Row) (Has : List R → Type 0) (count : ℕ) (h : IsSoundIn t s (OfSoMany count (IsRead Is cells Has))) where
  pub read_rows : (AreSound : List R → Type 0) → AreSound h.3.1.records
      → (has_table s.now.schema t ≡ true) × AreRowsOf t s (map cells h.3.1.records) × IsTable Is cells AreSound (map cells h.3.1.records)
  read_rows AreSound sound = (
    h.0,
    subst (AreRowsOf t s) h.3.1.are.same h.2,
    record { records = h.3.1.records; are = record { held = h.3.1.are.held; same = refl }; sound = sound },
  )

  pub so_many : count ≡ length h.3.1.records
  so_many = h.3.0 ∙ ap length h.3.1.are.same ∙ length-map h.3.1.records cells

-- the tables before one, and it, are those before the next
pub all_more : (Is : Table → Type 0) (ts : List Table) (t : Table) → AllByRecursion Is ts → Is t → AllByRecursion Is (ts ++ t ∷ [])
all_more Is [] t all is = (is, tt)
all_more Is (u ∷ ts) t all is = (all.0, all_more Is ts t all.1 is)

-- what was found since nothing changed was so at the first

module _ (first old : State) (same : IsUnchanged first old) where
  pub holds_before : (v : Version) (court : CourtSettings) (next : ℕ) (r : Rows) (ts : List Table) → AllByRecursion (Holds v old court next r) ts → AllByRecursion (Holds v first court next r) ts
  holds_before v court next r ts all = subst (λ (d : Database). AllByRecursion (Holds v (with_now first d) court next r) ts) same.0.now_is all

  pub named_before : (v : Version) (names : List (List ℕ)) → AreNamesFor v old names → AreNamesFor v first names
  named_before First names named = named
  named_before Second names named = subst (λ (d : Database). AreNamesIn (with_now first d) names) same.0.now_is named

  pub stays_open : (new : State) → StaysOpen old new → StaysOpen first new
  stays_open new stays = λ opened. unchanged_then first old new same (stays same.0.is_open)

  failed_before : (v : Version) (court : CourtSettings) (next : ℕ) (new : State) (fault : AdoptFault) → FailsAt v court next old new fault → FailsAt v court next first new fault
  failed_before v court next new (Damaged t) (behind, stays, r, named, all, unsound) =
      (behind, stays_open new stays, r, named_before v r.names named, holds_before v court next r (before t) all, unsound_before first old same t (AreSoundBy v t court next r) unsound)
  failed_before v court next new NoMemory left = stays_then first old new same left
  failed_before v court next new StoreFailed left = stays_then first old new same left
  failed_before v court next new _ never = absurd never

  read_before : (v : Version) (t : Table) (court : CourtSettings) (next : ℕ) (new : State) (Said : Rows → Type 0) → AreRead v t old court next new Said → AreRead v t first court next new Said
  read_before v t court next new Said it = record {
    same = unchanged_then first old new same it.same;
    rows = it.rows;
    named = named_before v it.rows.names it.named;
    sound = holds_before v court next it.rows (before t) it.sound;
    said = it.said;
  }

module _ {S : Type 0} (g : Ghosts S) (first old : Held S) where
  pub failed_since : IsStill g first old → (v : Version) (court : CourtSettings) (next : ℕ) (new : State) (fault : AdoptFault) → FailsAt v court next (state g old) new fault → FailsAt v court next (state g first) new fault
  failed_since (inl same) v court next new fault it = subst (λ h. FailsAt v court next (state g h) new fault) same it
  failed_since (inr same) v court next new fault it = failed_before (state g first) (state g old) same v court next new fault it

  pub read_since : IsStill g first old → (v : Version) (t : Table) (court : CourtSettings) (next : ℕ) (new : State) (Said : Rows → Type 0)
      → AreRead v t (state g old) court next new Said → AreRead v t (state g first) court next new Said
  read_since (inl same) v t court next new Said it = subst (λ h. AreRead v t (state g h) court next new Said) same it
  read_since (inr same) v t court next new Said it = read_before (state g first) (state g old) same v t court next new Said it

-- behind the ends nothing is left in the first version
pub first_judged : (v : Version) → v ≡ First → (court : CourtSettings) (next : ℕ) (first new : State) (read : LastRead) → AreRead v table.ShortDays first court next new (λ r. SaysLast court next r read)
    → AreJudged v court next first new (λ r held. held ≡ holdings_of court r) (Ok read.held)
first_judged First is court next first new read was = (was.same, was.rows, (was.said.short_days.unread, was.said.unread), was.named, was.sound, was.said.held)
first_judged Second is court next first new read was = absurd cc
