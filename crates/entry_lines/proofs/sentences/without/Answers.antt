use Rattle.entry_lines.proofs.TextLemmas.{kept_whole, stripped}
use Rattle.entry_lines.proofs.sentences.without.Goals as goal

pub returns-in-Some : goal.returns-in-Some
returns-in-Some c = stripped c.args.line.now c.args.text.now c.in-Some.rest.now c.in-Some.ensures.cases

pub returns-in-None : goal.returns-in-None
returns-in-None c = kept_whole c.args.line.now c.args.text.now c.in-None.ensures.cases
