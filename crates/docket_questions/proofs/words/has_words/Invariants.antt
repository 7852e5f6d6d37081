use Rattle.std.proofs.Common.{◌≡◌, drop}
use Rattle.docket_questions.specs.Searches.{folded, holds}
use Rattle.docket_questions.proofs.words.has_words.Given as goal

-- the words begin at no place before this one
abbrev pub invariant-places : goal.invariant-places
invariant-places l = holds (folded l.words) (folded l.text) ≡ holds (folded l.words) (folded (drop l.from l.text))
