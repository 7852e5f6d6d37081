use Rattle.std.proofs.Common.{None, Some}
use Rattle.docket_serving.proofs.copying.give_copy.Goals as goal

pub returns-in_default : goal.returns-in_default
returns-in_default g c = (None, tt, c.send_copy.ensures)

pub returns-in-Err : goal.returns-in-Err
returns-in-Err g c = (None, tt, c.send_copy-in-Err.ensures)

pub returns-in-Ok : goal.returns-in-Ok
returns-in-Ok g c = (Some c.in-Ok.copy.items, c.in-Ok.ensures, c.send_copy-in-Ok.ensures)
