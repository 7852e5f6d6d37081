use Rattle.docket_wire.proofs.ReadingLemmas.{command_in_json, command_in_none}
use Rattle.docket_wire.proofs.reading.parsed.Goals as goal

pub returns-in-Ok : goal.returns-in-Ok
returns-in-Ok c = rw (command_in_json _ _ c.in-Ok.ensures.ok.0 c.in-Ok.ensures.ok.1) c.command.ensures

pub returns-else-is_memory : goal.returns-else-is_memory
returns-else-is_memory c = command_in_none _ (c.in-Err.ensures.err (λ m. let t = c.is_memory.ensures.1 m in cc))
