use Rattle.std.proofs.Common.{map, string_bytes}
use Rattle.docket_jobs.proofs.EntryLemmas.{kind_faults}
use Rattle.docket_jobs.proofs.entering.read_entry.Goals as goal

pub returns-in-Ok-clause-fault : goal.returns-in-Ok-clause-fault
returns-in-Ok-clause-fault c = kind_faults c.args.word.now c.in-Ok.kind (map string_bytes c.args.words.now) c.read_fields.result c.in-Ok.ensures c.read_fields.ensures.fault
