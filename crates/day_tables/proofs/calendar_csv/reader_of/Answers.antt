use Rattle.std.proofs.Common.{◌∙◌}
use Rattle.day_tables.proofs.CsvLemmas.{fresh}
use Rattle.day_tables.proofs.calendar_csv.reader_of.Goals as goal

pub returns : goal.returns
returns c =
    let f = c.from_reader.ensures in
    let e = c.has_headers.ensures in
    fresh c.args.bytes.now c.from_reader.result (rw e at f.trim ∙ c.new.ensures.trim) (rw e at f.has_headers) (rw e at f.flexible ∙ c.new.ensures.flexible) (rw e at f.config ∙ c.new.ensures.config) f.headers f.expected f.state f.source
