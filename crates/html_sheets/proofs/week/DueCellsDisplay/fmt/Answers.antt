use Rattle.std.proofs.Output.{has_written_of_eq}
use Rattle.html_sheets.specs.Elements.{told, case_number, deadline_number}
use Rattle.html_sheets.specs.RuleWords.{rule_told}
use Rattle.html_sheets.specs.Weeks.{end_of_row}
use Rattle.html_sheets.proofs.ElementLemmas.{cells_parts}
use Rattle.html_sheets.proofs.week.DueCellsDisplay.fmt.Goals as goal

pub returns-clause-writes : goal.returns-clause-writes
returns-clause-writes g c plain ok =
    let cells = c.args.self.now in
    let due = cells.due.now in
    let parts = cells_parts (end_of_row cells.court.now due.close due.end) (case_number cells.links due.case) (told cells.label.now) (deadline_number cells.links due.case due.number) (rule_told c.as_str.result.now) in
    rw (c.as_str.ensures) at (has_written_of_eq _ _ _ _ _ parts (c.write.ensures.writes plain ok))
