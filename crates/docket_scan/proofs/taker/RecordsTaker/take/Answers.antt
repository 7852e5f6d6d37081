use Rattle.docket_scan.proofs.RecordLemmas.{one_more, no_record, refused_record}
use Rattle.docket_scan.proofs.taker.RecordsTaker.take.Goals as goal

pub returns-in_default-clause-refused : goal.returns-in_default-clause-refused
returns-in_default-clause-refused g c rows more has refused =
    no_record g.C.Record.StoredRow.Is g.C.Record.StoredRow.cells (g.C.RecordCheck.AreSound (g.C.RecordCheck.context c.args.self.now.check)) rows c.args.row.now more
    (λ r is same. c.in_default.not-Some r (c.in_ok-record.ensures.reads r is same))

pub returns-clause-taken : goal.returns-clause-taken
returns-clause-taken g c rows has taken =
    let same = rw c.in-Some.is at c.in_ok-record.ensures.sound in
    let is = rw c.in-Some.is at c.in_ok-record.ensures.fits in
    one_more g.C.Record.StoredRow.Is g.C.Record.StoredRow.cells (g.C.RecordCheck.HasTaken c.args.self.now.check) (g.C.RecordCheck.HasTaken c.take.new.self) rows c.args.row.now c.in-Some.record is same
    (λ x held same. let found = rw c.in-Some.is at (c.in_ok-record.ensures.reads x held same) in cc) has (c.take.ensures.taken has.records has.taken taken)

pub returns-clause-refused : goal.returns-clause-refused
returns-clause-refused g c rows more has refused =
    refused_record g.C.Record.StoredRow.Is g.C.Record.StoredRow.cells (g.C.RecordCheck.HasTaken c.args.self.now.check) (g.C.RecordCheck.AreSound (g.C.RecordCheck.context c.args.self.now.check)) rows c.args.row.now more c.in-Some.record
    (λ x held same. let found = rw c.in-Some.is at (c.in_ok-record.ensures.reads x held same) in cc) has (λ rest. c.take.ensures.refused has.records rest has.taken refused)
