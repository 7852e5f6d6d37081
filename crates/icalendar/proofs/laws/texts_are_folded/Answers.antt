use Rattle.std.proofs.Common.{IsUtf8}
use Rattle.std.proofs.lemmas.List.Elements.{recursion_from_All}
use Rattle.icalendar.specs.ContentLines.{IsLine}
use Rattle.icalendar.proofs.CharacterLaws.{lines_utf8}
use Rattle.icalendar.proofs.LineLaws.{lines_short, lines_unfolded}
use Rattle.icalendar.proofs.laws.texts_are_folded.Goals as goal

pub returns-clause-short : goal.returns-clause-short
returns-clause-short c = λ lines h. lines_short lines (recursion_from_All IsLine lines h)

pub returns-clause-unfolded : goal.returns-clause-unfolded
returns-clause-unfolded c = λ lines h. lines_unfolded lines (recursion_from_All IsLine lines h)

pub returns-clause-characters : goal.returns-clause-characters
returns-clause-characters c = λ lines h is. lines_utf8 lines (recursion_from_All IsLine lines h) (recursion_from_All IsUtf8 lines is)
