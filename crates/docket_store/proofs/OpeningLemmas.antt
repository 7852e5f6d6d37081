-- What is found in a database holds of the connection that comes back.
use Rattle.std.proofs.Common.{◌≡◌, ◌∙◌, inl, inr, false, true, Option, Ok, Err, sym, ap, subst, refl, arith}
use Rattle.std.proofs.lemmas.Bool.{false≢true}
use Rattle.sqlite_schema.specs.Names.{same_name}
use Rattle.sqlite.specs.Schema.{Schema}
use Rattle.sqlite.specs.Store.{Ghosts}
use Rattle.sqlite.specs.State.{State, HasCleanDisk, Survives}
use Rattle.sqlite.specs.declared.error.Error.{Error}
use Rattle.sqlite.specs.Held.{Held, state}
use Rattle.court_days.specs.Court.{CourtSettings}
use Rattle.docket_history.specs.Histories.{History}
use Rattle.docket_columns.specs.declared.version.Version.TheVariants.{Second}
use Rattle.docket_scan.specs.Causes.{IsCausedFault}
use Rattle.docket_scan.specs.Dockets.{IsFoundOfDocket}
use Rattle.docket_scan.specs.Finding.{IsNotTaken, IsTaken}
use Rattle.docket_scan.specs.Scans.{StaysOrRollsBack}
use Rattle.docket_scan.specs.Shapes.{has_named}
use Rattle.docket_scan.specs.declared.fault.AdoptFault.{AdoptFault}
use Rattle.docket_scan.specs.declared.fault.AdoptFault.TheVariants.{Empty, NotADocket, OtherVersion, Damaged, NoMemory, StoreFailed}
use Rattle.docket_scan.specs.declared.finding.FoundDocket.{FoundDocket}
use Rattle.docket_tables.specs.Schema.{docket_schema}
use Rattle.docket_tables.specs.Stands.{IsSettled, Lasts}
use Rattle.docket_tables.specs.declared.table.Table.TheVariants as table
use Rattle.docket_tables.proofs.StandsLemmas.{unchanged_settled, undone_lasting}
use Rattle.docket_applying.specs.Applying.{StandsFor, docket_rows}
use Rattle.docket_store.specs.Causes.{IsCausedOpening, IsShort}
use Rattle.docket_store.specs.Opening.{Finds}

module _ {S : Type 0} (g : Ghosts S) (old new : Held S) (court : CourtSettings) (h : History) (crash : Survives (state g old) (state g new) (λ _. ⊥)) (idle : new.in_transaction ≡ false) (stands : StandsFor g old court h) where
  settled : HasCleanDisk (state g new) → IsSettled (state g old) (docket_rows court h)
  settled clean = stands.1 (omega (arith, crash.clean, clean))

  lasts : (HasCleanDisk (state g new) → StaysOrRollsBack (state g old) (state g new)) → Lasts g new (docket_rows court h)
  lasts left = (idle, λ clean. undone_lasting (state g old) (state g new) (docket_rows court h) crash clean (settled clean) (left clean))

  pub lacks_memory : (fault : AdoptFault) → fault ≡ NoMemory → (HasCleanDisk (state g new) → IsNotTaken Second (state g old) (state g new) fault) → Lasts g new (docket_rows court h)
  lacks_memory fault is told = lasts (λ clean. (subst (λ (f : AdoptFault). IsNotTaken Second (state g old) (state g new) f) is (told clean)).0)

  pub found_docket : (found : FoundDocket) → (HasCleanDisk (state g new) → IsTaken Second (state g old) (state g new) (Ok found)) → (HasCleanDisk (state g new) → IsFoundOfDocket court h (Ok found))
      → Finds g new court h (Ok found)
  found_docket found taken its = (
    (idle, λ clean. unchanged_settled (state g old) (state g new) (docket_rows court h) crash clean (settled clean) (taken clean).0),
    its,
  )

  pub not_found : (fault : AdoptFault) → (fault ≡ NoMemory → ⊥) → (HasCleanDisk (state g new) → IsNotTaken Second (state g old) (state g new) fault) → (HasCleanDisk (state g new) → IsFoundOfDocket court h (Err fault))
      → Finds g new court h (Err fault)
  not_found Empty other told its = its
  not_found NotADocket other told its = its
  not_found OtherVersion other told its = its
  not_found (Damaged t) other told its = its
  not_found NoMemory other told its = absurd (other refl)
  not_found StoreFailed other told its = lasts (λ clean. (told clean).0)

-- a docket has a table of a court
court_there : has_named docket_schema table.Court ≡ true
unfolding same_name
court_there = refl

pub not_unnamed : {S : Type 0} (g : Ghosts S) (conn : Held S) (court : CourtSettings) (h : History) → StandsFor g conn court h → HasCleanDisk (state g conn) → has_named conn.schema table.Court ≡ false → ⊥
not_unnamed g conn court h stands clean none =
    false≢true (sym none ∙ ap (λ (schema : Schema). has_named schema table.Court) (stands.1 clean).shows.schema ∙ court_there)

-- why a database failed while it was opened

pub failed_opening : (old new : State) (failure : Option Error) (fault : AdoptFault) → IsCausedFault old new fault → IsCausedOpening old new failure fault
failed_opening old new failure StoreFailed failed = inl failed
failed_opening old new failure _ failed = tt

pub short_opening : (old new : State) (failure : Option Error) (fault : AdoptFault) → IsShort failure → IsCausedOpening old new failure fault
short_opening old new failure StoreFailed short = inr (inr short)
short_opening old new failure _ short = tt
