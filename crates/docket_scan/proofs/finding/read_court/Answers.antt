use Rattle.std.proofs.Common.{◌≡◌, ◌∙◌, [], true, refl, subst, sym, rules}
use Rattle.sqlite.specs.Held.{state}
use Rattle.docket_tables.specs.declared.table.Table.TheVariants as table
use Rattle.docket_scan.specs.Causes.{IsCausedFault}
use Rattle.docket_scan.specs.Finding.{IsNotTaken}
use Rattle.docket_scan.specs.Scans.{FailsToScan}
use Rattle.docket_scan.specs.Shapes.{has_named, has_table}
use Rattle.docket_scan.specs.Taken.{Finishes, HasSeen, HasTakenCourt}
use Rattle.docket_scan.proofs.CauseLemmas.{court_caused}
use Rattle.docket_scan.proofs.FindingLemmas.{court_failed, finished}
use Rattle.docket_scan.proofs.finding.read_court.Goals as goal

pub returns-in-Ok-Some-clause-told : goal.returns-in-Ok-Some-clause-told
returns-in-Ok-Some-clause-told g c clean =
    let old = state g.S.Store c.args.conn.now in
    let new = state g.S.Store c.scan.new.conn in
    let made = c.new-check.ensures in
    let begun : HasTakenCourt c.new-check.result [] = subst (λ seen. HasSeen c.new-check.result.version seen []) (sym made.none) refl in
    let told = rw (c.in-Ok-Some.is, c.in-Ok-Some.field-0-is) at (c.scan.ensures.told clean begun) in
    let version = c.scan.ensures.context ∙ made.version in
    let comes = subst (λ v. Finishes v told.1.0 c.finish.result) version (c.finish.ensures told.1.0 told.1.2.1) in
    let named : has_named old.now.schema table.Court ≡ true = search rules in
    let there : has_table old.now.schema table.Court ≡ true = search rules in
    finished c.args.version old new told.1.0 c.finish.result named there told.0 told.1.1 comes

pub returns-in-Err-clause-cause : goal.returns-in-Err-clause-cause
returns-in-Err-clause-cause g c clean =
    let old = state g.S.Store c.args.conn.now in
    let new = state g.S.Store c.scan.new.conn in
    subst (IsCausedFault old new) (sym c.court_fault.ensures) (court_caused old new c.in-Err.error (c.in-Err.ensures.cause clean))

pub returns-in-Err-clause-told : goal.returns-in-Err-clause-told
returns-in-Err-clause-told g c clean =
    let old = state g.S.Store c.args.conn.now in
    let new = state g.S.Store c.scan.new.conn in
    let made = c.new-check.ensures in
    let begun : HasTakenCourt c.new-check.result [] = subst (λ seen. HasSeen c.new-check.result.version seen []) (sym made.none) refl in
    let failed : FailsToScan table.Court old new c.in-Err.error = rw c.in-Err.is at (c.scan.ensures.told clean begun) in
    let there : has_table old.now.schema table.Court ≡ true = search rules in
    subst (IsNotTaken c.args.version old new) (sym c.court_fault.ensures) (court_failed c.args.version old new c.in-Err.error there failed)
