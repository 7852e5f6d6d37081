use Rattle.std.proofs.Common.{refl, sym, ◌∙◌}
use Rattle.day_tables.proofs.CsvLemmas.{read_either, refused_by}
use Rattle.day_tables.proofs.calendar_csv.next_record.Goals as goal

pub returns-in-Ok-clause-found : goal.returns-in-Ok-clause-found
returns-in-Ok-clause-found c bytes rs at = read_either bytes rs _ _ _ _ at (c.in-Ok.ensures.reads at.trim at.ready) (c.in-Ok.ensures.ready at.trim) c.in-Ok.ensures.flexible

pub returns-in-UnequalLengths-clause-refused : goal.returns-in-UnequalLengths-clause-refused
returns-in-UnequalLengths-clause-refused c bytes rs at other =
    let r = refused_by bytes rs c.args.reader.now c.read_byte_record.new.self _ _ _ _ at (sym c.kind.ensures ∙ c.in-UnequalLengths.is) (c.in-Err.ensures.why at.ready) in
    (refl, r.0, r.1, r.2, r.3, r.4)
