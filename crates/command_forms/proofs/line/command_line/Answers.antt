use Rattle.command_forms.specs.Forms.{texts_of}
use Rattle.command_forms.proofs.LineLemmas.{line_is_compact, line_is_read}
use Rattle.command_forms.proofs.line.command_line.Goals as goal

pub returns-clause-text : goal.returns-clause-text
returns-clause-text c = line_is_compact c.to_string.result _ (texts_of c.args.pairs.now) c.to_string.ensures.text c.in_ok-object.ensures

pub returns-clause-reads : goal.returns-clause-reads
returns-clause-reads c = line_is_read c.to_string.result _ (texts_of c.args.pairs.now) c.to_string.ensures.reads_back c.in_ok-object.ensures
