use Rattle.std.proofs.Common.{◌≡◌, ◌∙◌, List, Vec, Global, Some, sym, ap, subst, arith}
use Rattle.std.specs.Option.{option_map}
use Rattle.sqlite.specs.Held.{state}
use Rattle.sqlite.specs.State.{HasCleanDisk}
use Rattle.court_days.specs.Calendar.{Entered}
use Rattle.court_days.specs.Court.{zone_of}
use Rattle.docket_decisions.specs.EndRows.{end_rows_of}
use Rattle.docket_history.specs.Histories.{deadlines}
use Rattle.docket_history.specs.Records.{calendar, deadline_lines, lines_from}
use Rattle.docket_decisions.specs.declared.end_row.StoredEnd.{StoredEnd}
use Rattle.docket_history.specs.declared.record.DeadlineLine.{DeadlineLine}
use Rattle.docket_history.specs.declared.view.DeadlineView.{DeadlineView}
use Rattle.docket_applying.specs.Dockets.{serving}
use Rattle.docket_applying.specs.Told.{AreEndsBy}
use Rattle.docket_applying.proofs.AskLemmas.{asks_told, sound_ends, lines_shown, deadlines_shown}
use Rattle.docket_applying.proofs.FailureLemmas.{told_caused, told_named}
use Rattle.docket_applying.proofs.IdleLemmas.{idle_err, idle_told}
use Rattle.docket_applying.proofs.asking.lines_of_case.Goals as goal

pub returns-clause-answer : goal.returns-clause-answer
returns-clause-answer g c kept h stands entered shows =
    let court = c.args.court.now in
    let conn = c.ends_shown.new.conn in
    let number = c.args.number in
    let by : Entered = c.args.entered.now in
    let ds : List DeadlineView = c.args.deadlines.now in
    let rows : List StoredEnd = c.as_slice.result.now in
    let asked = c.in_ok-stored.ensures.answer court kept h stands in
    let early : HasCleanDisk (state g.S.Store conn) → HasCleanDisk (state g.S.Store c.args.conn.now) = λ clean. omega (arith, c.ends_shown.ensures.leaves.writes_nothing.clean) in
    let are_made : HasCleanDisk (state g.S.Store conn) → ds ≡ deadlines number h = λ clean. deadlines_shown court h number _ (shows (early clean)) in
    let are_ends : HasCleanDisk (state g.S.Store conn) → rows ≡ end_rows_of (zone_of court) (calendar h) number (deadlines number h) = λ clean. c.as_slice.ensures.value ∙ asked.1 clean in
    let sound : HasCleanDisk (state g.S.Store conn) → AreEndsBy court by number ds rows = λ clean.
    subst (λ (k : Entered). AreEndsBy court k number ds rows) (sym (entered (early clean)))
    (subst (λ (all : List StoredEnd). AreEndsBy court (calendar h) number ds all) (sym (are_ends clean))
    (subst (λ (all : List DeadlineView). AreEndsBy court (calendar h) number all (end_rows_of (zone_of court) (calendar h) number (deadlines number h))) (sym (are_made clean)) (sound_ends court h number stands.docket))) in
    asks_told g.S.Store (serving conn court kept) h (AreEndsBy court by number ds rows)
    (λ (lines : Vec DeadlineLine Global). AreEndsBy court by number ds rows → lines.items ≡ lines_from court by 1 ds)
    (λ lines. Some lines.items ≡ deadline_lines court h number) c.lines_told.result asked.0 sound
    (λ clean lines is.
    (λ i. Some (is (sound clean) i))
    ∙ ap (λ (k : Entered). Some (lines_from court k 1 ds)) (entered (early clean))
    ∙ ap (option_map (lines_from court (calendar h) 1)) (sym (shows (early clean))) ∙ lines_shown court h number)
    (c.lines_told.ensures number)

pub returns-in_err-stored-clause-leaves : goal.returns-in_err-stored-clause-leaves
returns-in_err-stored-clause-leaves g c = idle_err c.from_residual.result c.from_residual.ensures.1 c.in_err-stored.ensures.leaves

pub returns-clause-leaves : goal.returns-clause-leaves
returns-clause-leaves g c =
    let court = c.args.court.now in
    let by : Entered = c.args.entered.now in
    let ds : List DeadlineView = c.args.deadlines.now in
    let rows : List StoredEnd = c.as_slice.result.now in
    let sound = AreEndsBy court by c.args.number ds rows in
    let P = λ (lines : Vec DeadlineLine Global). AreEndsBy court by c.args.number ds rows → lines.items ≡ lines_from court by 1 ds in
    let told = c.lines_told.ensures c.args.number in
    idle_told c.lines_told.result (told_named c.ends_shown.new.failure sound P c.lines_told.result told)
    (told_caused (state g.S.Store c.args.conn.now) (state g.S.Store c.ends_shown.new.conn) c.ends_shown.new.failure sound P c.lines_told.result told) c.in_ok-stored.ensures.leaves
