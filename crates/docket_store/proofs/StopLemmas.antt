-- Why commands in order stopped.
use Rattle.std.proofs.Common.{◌≡◌, ◌∙◌, ◌<◌, ℕ, List, Option, Some, None, refl, ap, length, get_or, slice_get}
use Rattle.std.proofs.lemmas.Option.{slice_get_read}
use Rattle.sqlite.specs.Held.{state}
use Rattle.sqlite.specs.State.{State}
use Rattle.sqlite.specs.Store.{Ghosts}
use Rattle.sqlite.specs.declared.error.Error.{Error}
use Rattle.docket_tables.specs.Causes.{IsLater}
use Rattle.docket_command.specs.declared.command.Command.{Command}
use Rattle.docket_applying.specs.Causes.{IsClosedByWrite}
use Rattle.docket_store.specs.Causes.{IsCausedAt, StopsForCause}
use Rattle.docket_applying.specs.Dockets.{Docket}
use Rattle.docket_applying.specs.declared.fault.Fault.{Fault}
use Rattle.docket_applying.proofs.FailureLemmas.{write_caused_after}

-- the command at this place closed the docket, which was on the same connection when the first of them came
pub caused_at : {S : Type 0} (g : Ghosts S) (cs : List Command) (i place : ℕ) (c : Command) (first : State) (old new : Docket S) → i < length cs → c ≡ get_or cs i c → place ≡ i
    → IsLater first (state g old.conn) → IsClosedByWrite g c old new → IsCausedAt cs first (state g new.conn) new.closed_by place
caused_at g cs i place c first old new inside is at went closed =
    (c, ap (slice_get cs) at ∙ slice_get_read cs (length cs) i c refl inside is, (closed.0, closed.1, write_caused_after c first (state g old.conn) (state g new.conn) closed.0 went.0 went.1 closed.2))

-- a cause since the first of them is one since any earlier state
pub stop_caused_after : (cs : List Command) (first old new : State) (failure : Option Error) (stop : Option (ℕ × Fault)) → IsLater first old → StopsForCause cs old new failure stop → StopsForCause cs first new failure stop
stop_caused_after cs first old new failure None went cause = tt
stop_caused_after cs first old new failure (Some at) went cause = λ failed.
    let it = cause failed in (it.0, it.1, (it.2.0, it.2.1, write_caused_after it.0 first old new it.2.0 went.0 went.1 it.2.2))
