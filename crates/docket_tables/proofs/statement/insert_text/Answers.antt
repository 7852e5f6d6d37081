use Rattle.std.proofs.Common.{sym, ap}
use Rattle.docket_tables.specs.Texts.{insert_text}
use Rattle.docket_tables.proofs.statement.insert_text.Goals as goal

pub returns-in-Court : goal.returns-in-Court
returns-in-Court c = ap insert_text (sym c.in-Court.is)

pub returns-in-Calendar : goal.returns-in-Calendar
returns-in-Calendar c = ap insert_text (sym c.in-Calendar.is)

pub returns-in-Cases : goal.returns-in-Cases
returns-in-Cases c = ap insert_text (sym c.in-Cases.is)

pub returns-in-Parties : goal.returns-in-Parties
returns-in-Parties c = ap insert_text (sym c.in-Parties.is)

pub returns-in-Entries : goal.returns-in-Entries
returns-in-Entries c = ap insert_text (sym c.in-Entries.is)

pub returns-in-Deadlines : goal.returns-in-Deadlines
returns-in-Deadlines c = ap insert_text (sym c.in-Deadlines.is)

pub returns-in-Acts : goal.returns-in-Acts
returns-in-Acts c = ap insert_text (sym c.in-Acts.is)

pub returns-in-Receipts : goal.returns-in-Receipts
returns-in-Receipts c = ap insert_text (sym c.in-Receipts.is)

pub returns-in-Due : goal.returns-in-Due
returns-in-Due c = ap insert_text (sym c.in-Due.is)

pub returns-in-ShortDays : goal.returns-in-ShortDays
returns-in-ShortDays c = ap insert_text (sym c.in-ShortDays.is)

pub returns-in-LocalRules : goal.returns-in-LocalRules
returns-in-LocalRules c = ap insert_text (sym c.in-LocalRules.is)
