use Rattle.docket_wire.proofs.SpelledLemmas.{read_is_spelled, refused_spells_none, refused_has_fault}
use Rattle.docket_wire.proofs.reading.read_command.Goals as goal

pub returns-clause-spelled : goal.returns-clause-spelled
returns-clause-spelled c = read_is_spelled c.args.bytes.now c.parsed.result c.parsed.ensures

pub returns-clause-none : goal.returns-clause-none
returns-clause-none c = refused_spells_none c.args.bytes.now c.parsed.result c.parsed.ensures

pub returns-clause-fault : goal.returns-clause-fault
returns-clause-fault c = refused_has_fault c.args.bytes.now c.parsed.result c.parsed.ensures
