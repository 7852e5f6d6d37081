-- Stored ends of rows that may stand for no history.
use Rattle.std.proofs.Common.{List, refl}
use Rattle.docket_decisions.specs.EndRows.{all_changed_ends}
use Rattle.docket_decisions.specs.declared.end_row.StoredEnd.{StoredEnd}
use Rattle.docket_applying.specs.Settling.{MayLeave}
use Rattle.docket_decisions.specs.declared.moving.EndUpdate.{EndUpdate}
use Rattle.docket_decisions.specs.declared.moving.EndUpdate.TheVariants.{Moves, Calendar}

-- each update leaves some
pub one_left : (update : EndUpdate) (stored : List StoredEnd) → (next : List StoredEnd) × MayLeave update stored next
one_left (Moves moves) stored = (all_changed_ends moves.items stored, refl)
one_left (Calendar cases) stored = (stored, tt)
