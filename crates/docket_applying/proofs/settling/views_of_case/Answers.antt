use Rattle.docket_tables.proofs.ChangeCauses.{reading_after, reading_passed}
use Rattle.docket_tables.specs.declared.fault.ReadFault.TheVariants.{NoMemory}
use Rattle.sqlite.specs.State.{HasCleanDisk}
use Rattle.std.proofs.Common.{◌∙◌, ap, sym, subst, map, arith}
use Rattle.sqlite.specs.Held.{state}
use Rattle.docket_history.specs.Histories.{deadlines_from}
use Rattle.docket_tables.specs.Contents.{rows_with}
use Rattle.docket_orderly.specs.Orderly.{RunsFrom}
use Rattle.docket_tables.specs.Readings.{AreActsOf}
use Rattle.docket_tables.proofs.InsideLemmas.{failed_after, stays_after, went_after}
use Rattle.docket_applying.proofs.settling.views_of_case.Goals as goal

pub returns-in_err-rows-clause-inside : goal.returns-in_err-rows-clause-inside
returns-in_err-rows-clause-inside g c court t ends orderly =
    let rows = rows_with court t ends in
    failed_after (state g.S.Store c.args.tx.now.conn.now) (state g.S.Store c.deadlines_of_case.new.tx.conn.now) rows rows c.from_residual.result _
    (λ sees. (c.deadlines_of_case.ensures.inside court t ends orderly sees).0) c.from_residual.ensures.0

pub returns-in_err-acts-clause-inside : goal.returns-in_err-acts-clause-inside
returns-in_err-acts-clause-inside g c court t ends orderly =
    let rows = rows_with court t ends in
    let start = state g.S.Store c.args.tx.now.conn.now in
    let mid = state g.S.Store c.deadlines_of_case.new.tx.conn.now in
    let new = state g.S.Store c.acts_of_case.new.tx.conn.now in
    failed_after start new rows rows c.from_residual-in_err-acts.result _
    (stays_after start mid new rows rows _ (c.in_ok-rows.ensures.inside court t ends orderly) (λ sees. (c.acts_of_case.ensures.inside court t ends orderly sees).0)) c.from_residual-in_err-acts.ensures.0

pub returns-in_err-with_acts-clause-inside : goal.returns-in_err-with_acts-clause-inside
returns-in_err-with_acts-clause-inside g c court t ends orderly =
    let rows = rows_with court t ends in
    let start = state g.S.Store c.args.tx.now.conn.now in
    let mid = state g.S.Store c.deadlines_of_case.new.tx.conn.now in
    let new = state g.S.Store c.acts_of_case.new.tx.conn.now in
    failed_after start new rows rows c.from_residual-in_err-with_acts.result _
    (stays_after start mid new rows rows _ (c.in_ok-rows.ensures.inside court t ends orderly) (λ sees. (c.in_ok-acts.ensures.inside court t ends orderly sees).0)) c.from_residual-in_err-with_acts.ensures.0

pub returns-clause-inside : goal.returns-clause-inside
returns-clause-inside g c court t ends orderly =
    let rows = rows_with court t ends in
    let start = state g.S.Store c.args.tx.now.conn.now in
    let mid = state g.S.Store c.deadlines_of_case.new.tx.conn.now in
    let new = state g.S.Store c.acts_of_case.new.tx.conn.now in
    let k = c.args.case in
    went_after start mid new rows rows rows _ _ _ (c.in_ok-rows.ensures.inside court t ends orderly) (c.in_ok-acts.ensures.inside court t ends orderly) (λ are acts.
    let rows = c.as_slice.ensures.value ∙ are in
    c.in_ok-with_acts.ensures k t.acts (subst (λ rs. RunsFrom 1 (map (λ r. r.number) rs)) (sym rows) (orderly.deadlines_run k)) (subst (AreActsOf k t.acts) (sym c.as_slice-2.ensures.value) acts)
    ∙ ap (deadlines_from k 1 t.acts) rows)

pub returns-in_err-rows-clause-still : goal.returns-in_err-rows-clause-still
returns-in_err-rows-clause-still g c rows =
    failed_after (state g.S.Store c.args.tx.now.conn.now) (state g.S.Store c.deadlines_of_case.new.tx.conn.now) rows rows c.from_residual.result _
    (λ sees. (c.deadlines_of_case.ensures.still rows sees).0) c.from_residual.ensures.0

pub returns-in_err-acts-clause-still : goal.returns-in_err-acts-clause-still
returns-in_err-acts-clause-still g c rows =
    let start = state g.S.Store c.args.tx.now.conn.now in
    let mid = state g.S.Store c.deadlines_of_case.new.tx.conn.now in
    let new = state g.S.Store c.acts_of_case.new.tx.conn.now in
    failed_after start new rows rows c.from_residual-in_err-acts.result _
    (stays_after start mid new rows rows _ (c.in_ok-rows.ensures.still rows) (λ sees. (c.acts_of_case.ensures.still rows sees).0)) c.from_residual-in_err-acts.ensures.0

pub returns-in_err-with_acts-clause-still : goal.returns-in_err-with_acts-clause-still
returns-in_err-with_acts-clause-still g c rows =
    let start = state g.S.Store c.args.tx.now.conn.now in
    let mid = state g.S.Store c.deadlines_of_case.new.tx.conn.now in
    let new = state g.S.Store c.acts_of_case.new.tx.conn.now in
    failed_after start new rows rows c.from_residual-in_err-with_acts.result _
    (stays_after start mid new rows rows _ (c.in_ok-rows.ensures.still rows) (λ sees. (c.in_ok-acts.ensures.still rows sees).0)) c.from_residual-in_err-with_acts.ensures.0

pub returns-clause-still : goal.returns-clause-still
returns-clause-still g c rows =
    let start = state g.S.Store c.args.tx.now.conn.now in
    let mid = state g.S.Store c.deadlines_of_case.new.tx.conn.now in
    let new = state g.S.Store c.acts_of_case.new.tx.conn.now in
    went_after start mid new rows rows rows (Unit {0}) (Unit {0}) (Unit {0}) (c.in_ok-rows.ensures.still rows) (c.in_ok-acts.ensures.still rows) (λ a b. tt)

pub returns-in_err-rows-clause-cause : goal.returns-in_err-rows-clause-cause
returns-in_err-rows-clause-cause g c clean court t ends orderly sees =
    reading_passed (state g.S.Store c.args.tx.now.conn.now) (state g.S.Store c.deadlines_of_case.new.tx.conn.now) c.in_err-rows.field-0.0 c.from_residual.result c.from_residual.ensures.1
    (c.in_err-rows.ensures.cause clean court t ends orderly sees)

pub returns-in_err-acts-clause-cause : goal.returns-in_err-acts-clause-cause
returns-in_err-acts-clause-cause g c clean court t ends orderly sees =
    let old = state g.S.Store c.args.tx.now.conn.now in
    let mid = state g.S.Store c.deadlines_of_case.new.tx.conn.now in
    let new = state g.S.Store c.acts_of_case.new.tx.conn.now in
    let between : HasCleanDisk mid = omega (arith, clean, c.acts_of_case.ensures.clean) in
    let went = c.in_ok-rows.ensures.inside court t ends orderly (λ _. sees) in
    let fault = c.in_err-acts.field-0.0 in
    reading_passed old new fault c.from_residual-in_err-acts.result c.from_residual-in_err-acts.ensures.1
    (reading_after old mid new new fault went.0.survives.counts (omega arith) went.0.survives.limit (c.in_err-acts.ensures.cause clean court t ends orderly (went.1 between).0))

pub returns-in_err-with_acts-clause-cause : goal.returns-in_err-with_acts-clause-cause
returns-in_err-with_acts-clause-cause g c clean court t ends orderly sees =
    reading_passed (state g.S.Store c.args.tx.now.conn.now) (state g.S.Store c.acts_of_case.new.tx.conn.now) NoMemory c.from_residual-in_err-with_acts.result c.from_residual-in_err-with_acts.ensures.1 tt
