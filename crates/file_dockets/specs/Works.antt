-- The outcome of a job on a docket.
use Rattle.std.specs.Prelude.{Result, Ok, Err}
use Rattle.docket_scan.specs.declared.fault.AdoptFault.{AdoptFault}
use Rattle.docket_scan.specs.declared.fault.AdoptFault.TheVariants as adopt

-- the docket was adopted, and this holds of the work on it; it is not adopted only where memory ran out or the database failed
abbrev pub WorksTo : {T : Type 0} → (T → Type 0) → Result T AdoptFault → Type 0
WorksTo P (Ok done) = P done
WorksTo P (Err adopt.NoMemory) = Unit {0}
WorksTo P (Err adopt.StoreFailed) = Unit {0}
WorksTo P (Err _) = ⊥
