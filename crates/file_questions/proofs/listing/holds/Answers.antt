use Rattle.std.proofs.lemmas.Str.Pattern.{contains_text}
use Rattle.file_questions.proofs.PartLemmas.{holds-is}
use Rattle.file_questions.proofs.listing.holds.Goals as goal

pub returns-clause-value : goal.returns-clause-value
returns-clause-value c = holds-is c.contains.result c.args.part.now c.args.text.now (contains_text c.contains.result c.args.part.now c.args.text.now c.contains.ensures.cases)

pub returns-clause-means : goal.returns-clause-means
returns-clause-means c = contains_text c.contains.result c.args.part.now c.args.text.now c.contains.ensures.cases
