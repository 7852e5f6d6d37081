use Rattle.std.proofs.Common.{◌∙◌, [], sym}
use Rattle.std.proofs.lemmas.Result.{err_from_is_err_and}
use Rattle.day_tables.proofs.CsvLemmas.{first_fault, no_record, no_header}
use Rattle.day_tables.proofs.calendar_csv.read_calendar_csv.Goals as goal

pub returns-in_err-next_record-clause-fault : goal.returns-in_err-next_record-clause-fault
returns-in_err-next_record-clause-fault c =
    let p = err_from_is_err_and c.from_residual.result c.from_residual.ensures.1 in
    rw (p.1, p.2) (first_fault _ _ (c.in_err-next_record.ensures.refused c.args.bytes.now [] c.reader_of-reader.ensures))

pub returns-then-not-branch-clause-fault : goal.returns-then-not-branch-clause-fault
returns-then-not-branch-clause-fault c other = no_record _ (rw c.if-not-branch.true at (c.in_ok-next_record.ensures.found c.args.bytes.now [] c.reader_of-reader.ensures))

pub returns-then-not-is_header-clause-fault : goal.returns-then-not-is_header-clause-fault
returns-then-not-is_header-clause-fault c other =
    let found = rw c.if-not-branch.false at (c.in_ok-next_record.ensures.found c.args.bytes.now [] c.reader_of-reader.ensures) in
    no_header _ _ _ found.0 (sym c.is_header.ensures ∙ c.if-not-is_header.true)

pub returns-clause-rows : goal.returns-clause-rows
returns-clause-rows c =
    let found = rw c.if-not-branch.false at (c.in_ok-next_record.ensures.found c.args.bytes.now [] c.reader_of-reader.ensures) in
    c.days_of.ensures.rows c.args.bytes.now _ (sym c.is_header.ensures ∙ c.if-not-is_header.false) found.0

pub returns-clause-fault : goal.returns-clause-fault
returns-clause-fault c =
    let found = rw c.if-not-branch.false at (c.in_ok-next_record.ensures.found c.args.bytes.now [] c.reader_of-reader.ensures) in
    c.days_of.ensures.fault c.args.bytes.now _ (sym c.is_header.ensures ∙ c.if-not-is_header.false) found.0
