use Rattle.std.proofs.Common.{◌≡◌, Vec, Global, arith}
use Rattle.court_days.specs.Court.{zone_of}
use Rattle.docket_decisions.specs.EndRows.{end_rows_of}
use Rattle.docket_history.specs.Histories.{deadlines}
use Rattle.docket_history.specs.Records.{calendar}
use Rattle.docket_decisions.specs.Tables.{rows_of}
use Rattle.docket_decisions.specs.declared.end_row.StoredEnd.{StoredEnd}
use Rattle.docket_applying.specs.Applying.{docket_rows}
use Rattle.docket_applying.proofs.ApplyLemmas.{docket_orderly}
use Rattle.docket_applying.proofs.AskLemmas.{asks_failed, ends_are}
use Rattle.docket_applying.proofs.IdleLemmas.{found_idle, unread_idle}
use Rattle.docket_applying.proofs.asking.ends_shown.Goals as goal

pub returns-in-Ok-clause-answer : goal.returns-in-Ok-clause-answer
returns-in-Ok-clause-answer g c court kept h stands =
    let read = c.in-Ok.ensures.read court (rows_of court h) (docket_orderly court h stands.docket) stands.rows in (
      record { docket = stands.docket; serves = stands.serves; rows = read.0; calendar = λ clean. stands.calendar (omega (arith, c.ends_of_case.ensures.only.writes_nothing.clean)) },
      λ clean. ends_are court h c.args.number _ stands.docket (read.1 clean),
    )

pub returns-in-Err-clause-answer : goal.returns-in-Err-clause-answer
returns-in-Err-clause-answer g c court kept h stands =
    let fails = c.in-Err.ensures.read court (rows_of court h) (docket_orderly court h stands.docket) stands.rows in
    asks_failed g.S.Store {X = Vec StoredEnd Global} c.read_fault.new.conn court kept h (λ found. found.items ≡ end_rows_of (zone_of court) (calendar h) c.args.number (deadlines c.args.number h)) c.read_fault.result stands.docket
    (λ clean. stands.calendar (omega (arith, c.ends_of_case.ensures.only.writes_nothing.clean, c.read_fault.ensures.writes_nothing.clean)))
    (c.read_fault.ensures.left (docket_rows court h) (docket_rows court h) fails)

pub returns-in-Ok-clause-leaves : goal.returns-in-Ok-clause-leaves
returns-in-Ok-clause-leaves g c = found_idle c.requires c.in-Ok.ensures.only

pub returns-in-Err-clause-leaves : goal.returns-in-Err-clause-leaves
returns-in-Err-clause-leaves g c =
    unread_idle c.in-Err.ensures.only c.read_fault.ensures.idle c.read_fault.ensures.stays c.read_fault.ensures.writes_nothing c.read_fault.ensures.named c.read_fault.ensures.blames
