-- The canonical text of a command spells it and no other.
use Rattle.std.proofs.Common.{◌≡◌, ◌≢◌, ℕ, List, Result, Ok, Err, IfOk, IfErr}
use Rattle.docket_command.specs.declared.command.Command.{Command}
use Rattle.docket_wire.specs.declared.fault.WireFault.{WireFault}
use Rattle.docket_wire.specs.declared.fault.WireFault.TheVariants.{NoMemory}
use Rattle.docket_wire.specs.FirstFaults.{HasFault}
use Rattle.docket_wire.specs.Members.{Gives}
use Rattle.docket_wire.specs.Reading.{command_in}
use Rattle.docket_wire.specs.Spells.{Spells}
use Rattle.docket_wire.specs.Valid.{IsCommand}
use Rattle.docket_wire.specs.Writing.{canonical}
use Rattle.docket_wire.proofs.CanonicalLemmas.{reads_back}
use Rattle.docket_wire.proofs.FaultLemmas.{has_fault}
use Rattle.docket_wire.proofs.ReadingLemmas.{fault_given}
use Rattle.docket_wire.proofs.SpellsLemmas.{read_as_spelled, only_one}

pub canonical_spells : (c : Command) → IsCommand c → Spells (canonical c) c
canonical_spells c h = (read_as_spelled (canonical c) c).0 (reads_back c h)

pub canonical_alone : (c d : Command) → IsCommand c → Spells (canonical c) d → d ≡ c
canonical_alone c d h s = only_one (canonical c) c d (reads_back c h) s

-- what is read is spelled
pub read_is_spelled : (bytes : List ℕ) (r : Result Command WireFault) → Gives r (command_in bytes) → IfOk r (λ c. Spells bytes c)
read_is_spelled bytes (Ok c) g = (read_as_spelled bytes c).0 g
read_is_spelled bytes (Err e) g = tt

-- and what is refused, unless memory ran out, spells nothing
pub refused_spells_none : (bytes : List ℕ) (r : Result Command WireFault) → Gives r (command_in bytes) → IfErr r (λ e. e ≢ NoMemory → (c : Command) → ¬ (Spells bytes c))
refused_spells_none bytes (Ok c) g = tt
refused_spells_none bytes (Err e) g = λ other c s. let both : command_in bytes ≡ Ok c = (read_as_spelled bytes c).1 s in let refused : command_in bytes ≡ Err e = fault_given e (command_in bytes) other g in absurd (cc)

-- its fault is the one that is reported
pub refused_has_fault : (bytes : List ℕ) (r : Result Command WireFault) → Gives r (command_in bytes) → IfErr r (λ e. e ≢ NoMemory → HasFault bytes e)
refused_has_fault bytes (Ok c) g = tt
refused_has_fault bytes (Err e) g = λ other. has_fault bytes e (fault_given e (command_in bytes) other g)
