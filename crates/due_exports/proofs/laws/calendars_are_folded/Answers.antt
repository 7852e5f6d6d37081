use Rattle.std.proofs.Common.{ap, subst, sym, ◌∙◌, length, ◌≤◌}
use Rattle.std.specs.List.{All}
use Rattle.icalendar.specs.ContentLines.{physical_lines, unfolded}
use Rattle.icalendar.proofs.LineLaws.{lines_short, lines_unfolded}
use Rattle.due_exports.specs.Texts.{calendar_lines}
use Rattle.due_exports.proofs.CalendarLemmas.{calendar-lines, calendar-is-lines}
use Rattle.due_exports.proofs.laws.calendars_are_folded.Goals as goal

pub returns-clause-short : goal.returns-clause-short
returns-clause-short c = λ court stamp from to told.
    subst (λ text. All (λ part. length part ≤ 75) (physical_lines text)) (sym (calendar-lines court stamp from to told))
    (lines_short (calendar_lines stamp told) (calendar-is-lines stamp told))

pub returns-clause-unfolded : goal.returns-clause-unfolded
returns-clause-unfolded c = λ court stamp from to told.
    ap unfolded (calendar-lines court stamp from to told) ∙ lines_unfolded (calendar_lines stamp told) (calendar-is-lines stamp told)
