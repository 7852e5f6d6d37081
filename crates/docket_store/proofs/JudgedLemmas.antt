-- The rows that a connection holds after its database is checked.
use Rattle.std.proofs.Common.{◌≡◌, ◌⊎◌, inl, inr, false, Ok, IsTrue, refl, sym, subst, arith}
use Rattle.sqlite.specs.Store.{Ghosts}
use Rattle.sqlite.specs.State.{HasCleanDisk, Survives, IsUnchanged}
use Rattle.sqlite.specs.Held.{Held, state}
use Rattle.docket_columns.specs.declared.version.Version.TheVariants.{Second}
use Rattle.docket_scan.specs.Finding.{IsNotTaken, IsTaken}
use Rattle.docket_scan.specs.Scans.{StaysOrRollsBack}
use Rattle.docket_scan.specs.declared.fault.AdoptFault.{AdoptFault}
use Rattle.docket_scan.specs.declared.fault.AdoptFault.TheVariants as adopt
use Rattle.docket_scan.specs.declared.finding.FoundDocket.{FoundDocket}
use Rattle.docket_tables.specs.Layouts.{Rows}
use Rattle.docket_tables.specs.Stands.{HoldsRows, IsSettled, Lasts}
use Rattle.docket_tables.proofs.StandsLemmas.{unchanged_settled, undone_lasting}
use Rattle.docket_store.specs.Opening.{PreservesRejected, IsNotAdopted}

module _ {S : Type 0} (g : Ghosts S) (conn : Held S) (rows : Rows) where
  -- the check ran out of memory, or the database failed in it
  pub short_rejected : (fault : AdoptFault) → (fault ≡ adopt.NoMemory) ⊎ (fault ≡ adopt.StoreFailed) → IsNotAdopted g conn rows fault → PreservesRejected g conn rows fault
  short_rejected fault (inl short) left = subst (PreservesRejected g conn rows) (sym short) (subst (IsNotAdopted g conn rows) short left)
  short_rejected fault (inr failed) left = subst (PreservesRejected g conn rows) (sym failed) (subst (IsNotAdopted g conn rows) failed left)

-- the check of a database
module _ {S : Type 0} (g : Ghosts S) (old new : Held S) (rows : Rows) (crash : Survives (state g old) (state g new) (λ _. ⊥)) (idle : new.in_transaction ≡ false) (holds : HoldsRows g old rows) where
  settled : HasCleanDisk (state g new) → IsSettled (state g old) rows
  settled clean = holds.1 (omega (arith, crash.clean, clean))

  unchanged : (HasCleanDisk (state g new) → IsTrue (state g old).is_open → IsUnchanged (state g old) (state g new)) → HoldsRows g new rows
  unchanged same = (idle, λ clean. unchanged_settled (state g old) (state g new) rows crash clean (settled clean) (same clean (settled clean).shows.is_open))

  pub rolled_back : (HasCleanDisk (state g new) → StaysOrRollsBack (state g old) (state g new)) → Lasts g new rows
  rolled_back left = (idle, λ clean. undone_lasting (state g old) (state g new) rows crash clean (settled clean) (left clean))

  pub taken_preserves : (found : FoundDocket) → (HasCleanDisk (state g new) → IsTaken Second (state g old) (state g new) (Ok found)) → HoldsRows g new rows
  taken_preserves found taken = unchanged (λ clean _. (taken clean).0)

  pub rejected_preserves : (fault : AdoptFault) → (fault ≡ adopt.NoMemory → ⊥) → (HasCleanDisk (state g new) → IsNotTaken Second (state g old) (state g new) fault) → PreservesRejected g new rows fault
  rejected_preserves adopt.Empty other told = unchanged (λ clean. (told clean).0)
  rejected_preserves adopt.NotADocket other told = unchanged (λ clean. (told clean).0)
  rejected_preserves adopt.OtherVersion other told = unchanged (λ clean. (told clean).0)
  rejected_preserves (adopt.Damaged t) other told = unchanged (λ clean. (told clean).0)
  rejected_preserves adopt.NoMemory other told = absurd (other refl)
  rejected_preserves adopt.StoreFailed other told = rolled_back (λ clean. (told clean).0)

  pub short_lasts : (fault : AdoptFault) → fault ≡ adopt.NoMemory → (HasCleanDisk (state g new) → IsNotTaken Second (state g old) (state g new) fault) → Lasts g new rows
  short_lasts fault is told = rolled_back (λ clean. (subst (λ (f : AdoptFault). IsNotTaken Second (state g old) (state g new) f) is (told clean)).0)
