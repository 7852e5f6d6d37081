use Rattle.html_sheets.proofs.TextLemmas.{escaped-marks, lined-marks, escaped-controls, escaped-refers}
use Rattle.html_sheets.proofs.laws.texts_are_no_markup.Goals as goal

pub returns-clause-marks : goal.returns-clause-marks
returns-clause-marks c = escaped-marks

pub returns-clause-lines : goal.returns-clause-lines
returns-clause-lines c = lined-marks

pub returns-clause-controls : goal.returns-clause-controls
returns-clause-controls c = escaped-controls

pub returns-clause-references : goal.returns-clause-references
returns-clause-references c = escaped-refers
