use Rattle.std.proofs.lemmas.List.Elements.{recursion_from_All}
use Rattle.due_exports.specs.Texts.{IsNumbered}
use Rattle.due_exports.proofs.ArrayLemmas.{array-read}
use Rattle.due_exports.proofs.ObjectLemmas.{object-read}
use Rattle.due_exports.proofs.laws.objects_are_read_back.Goals as goal

pub returns-clause-object : goal.returns-clause-object
returns-clause-object c = object-read

pub returns-clause-whole : goal.returns-clause-whole
returns-clause-whole c = λ court stamp from to told h. array-read court stamp from to told (recursion_from_All IsNumbered told h)
