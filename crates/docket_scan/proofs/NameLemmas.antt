-- The local names of rows, one row more at a time, and what an error in reading them means.
use Rattle.std.proofs.Common.{◌≡◌, ◌∙◌, ◌⊎◌, inl, inr, ℕ, ◌||◌, false, List, [], ◌∷◌, ◌++◌, append-nil, Option, Some, None, IsTrue, Result, Ok, Err, IfOk, IfErr, refl, sym, ap, subst}
use Rattle.std.proofs.lemmas.List.Elements.{filter_map-append}
use Rattle.std.proofs.lemmas.List.Folds.{list_any-append}
use Rattle.std.specs.Str.{bytes_eq}
use Rattle.sqlite.specs.Effect.{Database}
use Rattle.sqlite.specs.Held.{Held, state}
use Rattle.sqlite.specs.Order.{Row}
use Rattle.sqlite.specs.State.{State, HasCleanDisk, IsUnchanged}
use Rattle.sqlite.specs.Store.{Ghosts}
use Rattle.sqlite.specs.declared.error.Error.{Error}
use Rattle.sqlite.specs.declared.error.Error.TheVariants.{SqliteFailure, SqlInputError}
use Rattle.sqlite.specs.declared.error.ErrorCode.TheVariants.{TypeMismatch, IntegerOverflow, OutOfMemory}
use Rattle.court_days.specs.Court.{CourtSettings}
use Rattle.docket_columns.specs.Cells.{local_name_in}
use Rattle.docket_columns.specs.declared.version.Version.{Version}
use Rattle.docket_columns.specs.declared.version.Version.TheVariants.{First, Second}
use Rattle.docket_sound.specs.KnownTexts.{is_known, is_one_of}
use Rattle.docket_sound.specs.declared.known_texts.KnownTexts.{KnownTexts}
use Rattle.docket_sound.proofs.TestLemmas.{or_last}
use Rattle.docket_tables.specs.declared.table.Table.{Table}
use Rattle.docket_tables.specs.declared.table.Table.TheVariants as table
use Rattle.docket_scan.specs.Judging.{fault_in}
use Rattle.docket_scan.specs.Names.{AreKnown, AreNamesIn, NamesRead, names_of}
use Rattle.docket_scan.specs.Reading.{AreNamed, FailsOver, NamesBefore}
use Rattle.docket_scan.specs.Scans.{FailsToScan, Scans, is_refusal}
use Rattle.docket_scan.specs.declared.fault.AdoptFault.{AdoptFault}
use Rattle.docket_scan.specs.declared.fault.AdoptFault.TheVariants.{Damaged, NoMemory, StoreFailed}
use Rattle.docket_scan.proofs.JudgingLemmas.{with_now}

named_more : (rows : List Row) (row : Row) (name : List ℕ) → local_name_in row ≡ Some name → names_of (rows ++ row ∷ []) ≡ names_of rows ++ name ∷ []
named_more rows row name is = filter_map-append local_name_in rows (row ∷ []) ∙ ap (λ l. names_of rows ++ l) (rw is refl)

-- a row with a local name, which was put to the others
pub with_name : (known new : KnownTexts) (rows : List Row) (row : Row) (name : List ℕ) → local_name_in row ≡ Some name → AreKnown known (names_of rows)
    → ((text : List ℕ) → is_known new text ≡ (bytes_eq name text || is_known known text)) → AreKnown new (names_of (rows ++ row ∷ []))
with_name known new rows row name is has put = λ text.
    put text ∙ ap (λ b. bytes_eq name text || b) (has text) ∙ or_last (bytes_eq name text) (is_one_of (names_of rows) text)
    ∙ sym (ap (λ names. is_one_of names text) (named_more rows row name is) ∙ list_any-append (λ other. bytes_eq other text) (names_of rows) (name ∷ []))

-- a row without one
pub without_name : (known : KnownTexts) (rows : List Row) (row : Row) → local_name_in row ≡ None → AreKnown known (names_of rows) → AreKnown known (names_of (rows ++ row ∷ []))
without_name known rows row none has =
    subst (AreKnown known) (sym (filter_map-append local_name_in rows (row ∷ []) ∙ ap (λ l. names_of rows ++ l) (rw none refl) ∙ append-nil (names_of rows))) has

-- a statement that is refused reads no table
pub refused : (e : Error) (at : Table) → fault_in table.LocalRules e ≡ Damaged at → IsTrue (is_refusal e)
refused (SqlInputError why) at is = refl
refused (SqliteFailure TypeMismatch) at is = refl
refused (SqliteFailure IntegerOverflow) at is = refl
refused (SqliteFailure OutOfMemory) at is = absurd cc
refused _ at is = absurd cc

-- and another error is passed on
pub failed : (e : Error) → ((at : Table) → fault_in table.LocalRules e ≡ Damaged at → ⊥) → (fault_in table.LocalRules e ≡ NoMemory) ⊎ (fault_in table.LocalRules e ≡ StoreFailed)
failed (SqlInputError why) other = absurd (other table.LocalRules refl)
failed (SqliteFailure TypeMismatch) other = absurd (other table.LocalRules refl)
failed (SqliteFailure IntegerOverflow) other = absurd (other table.LocalRules refl)
failed (SqliteFailure OutOfMemory) other = inl refl
failed _ other = inr refl

pub names_unread : (old new : State) (e : Error) (r : Result KnownTexts AdoptFault) → FailsToScan table.LocalRules old new e
    → IfOk r (λ names. IsTrue (is_refusal e) × ((text : List ℕ) → is_known names text ≡ false)) → IfErr r (λ fault. (fault ≡ NoMemory) ⊎ (fault ≡ StoreFailed)) → NamesRead old new r
names_unread old new e (Ok names) fails (refusal, none) err = let it = fails.1 refusal in (it.1, [], inl (it.0, refl), none)
names_unread old new e (Err fault) fails ok (inl short) = subst (λ f. NamesRead old new (Err f)) (sym short) fails.0
names_unread old new e (Err fault) fails ok (inr broken) = subst (λ f. NamesRead old new (Err f)) (sym broken) fails.0

-- the rows were read to their end: no row is refused
pub names_read : (old new : State) (names : KnownTexts) (count : Option ℕ) → IsUnchanged old new × Scans table.LocalRules old (λ rows. AreKnown names (names_of rows)) (λ rows. Unit {0}) count → NamesRead old new (Ok names)
names_read old new names (Some n) (same, it) = (same, names_of it.0, inr (it.0, it.1, refl), it.2.1)
names_read old new names None (same, stopped) = absurd (stopped.2 [] tt)

named_then : (old new : State) (names : List (List ℕ)) → IsUnchanged old new → AreNamesIn old names → AreNamesIn new names
named_then old new names same named = subst (λ (d : Database). AreNamesIn (with_now new d) names) (sym same.0.now_is) named

module _ {S : Type 0} (g : Ghosts S) where
  -- the first version has none
  pub first_named : (v : Version) → v ≡ First → (now : Held S) (read : KnownTexts) → ((text : List ℕ) → is_known read text ≡ false) → AreNamed g v now now read
  first_named First is now read none = record { still = inl refl; names = []; named = refl; known = none }
  first_named Second is now read none = absurd cc

  -- and the second those that were read
  module _ (old new : Held S) where
    second_named : (v : Version) → v ≡ Second → (read : KnownTexts) → NamesRead (state g old) (state g new) (Ok read) → AreNamed g v old new read
    second_named First is read names_read = absurd cc
    second_named Second is read (same, names, named, knows) =
        record { still = inr same; names = names; named = named_then (state g old) (state g new) names same named; known = knows }

    pub second_ok : (v : Version) → v ≡ Second → (r : Result KnownTexts AdoptFault) → (HasCleanDisk (state g new) → NamesRead (state g old) (state g new) r) → IfOk r (NamesBefore g v old new)
    second_ok v is (Ok read) told = λ clean. second_named v is read (told clean)
    second_ok v is (Err fault) told = tt

    pub second_err : (v : Version) (court : CourtSettings) (next : ℕ) (r : Result KnownTexts AdoptFault) → (HasCleanDisk (state g new) → NamesRead (state g old) (state g new) r)
        → IfErr r (FailsOver v (state g old) court next (state g new))
    second_err v court next (Ok read) told = tt
    second_err v court next (Err NoMemory) told = told
    second_err v court next (Err StoreFailed) told = told
    second_err v court next (Err _) told = λ clean. absurd (told clean)
