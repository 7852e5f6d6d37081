use Rattle.std.proofs.Common.{◌≡◌, ◌≤◌, ◌++◌, false, length, IsPermutation, sym, subst}
use Rattle.std.proofs.lemmas.List.{length-map}
use Rattle.std.proofs.lemmas.Result.{IfOk-weaker}
use Rattle.court_days.specs.Court.{zone_of}
use Rattle.docket_decisions.specs.Additions.{AddsOnce, AddsAmong}
use Rattle.docket_decisions.specs.EndRows.{all_changed_ends, end_rows_of, ends_running, touches}
use Rattle.std.specs.List.{AllByRecursion}
use Rattle.docket_decisions.proofs.AddedEnds.{added_beside}
use Rattle.docket_decisions.proofs.EndChanges.{leads_beside, untouched}
use Rattle.docket_decisions.proofs.end_row.due_changes.Goals as goal

pub returns-clause-rows : goal.returns-clause-rows
returns-clause-rows c others apart are =
    let case = c.args.case in
    let deadlines = c.args.deadlines.now in
    let stored = c.args.stored.now in
    let ends = ends_running (zone_of c.args.court.now) c.args.calendar.now deadlines in
    IfOk-weaker c.changes_of_case.result _ _ (λ changes made.
    subst (λ xs. IsPermutation (all_changed_ends xs (others ++ stored)) (others ++ end_rows_of (zone_of c.args.court.now) c.args.calendar.now case deadlines)) (sym made)
    (leads_beside case ends stored others are apart)) c.changes_of_case.ensures

pub returns-clause-kept : goal.returns-clause-kept
returns-clause-kept c are =
    let case = c.args.case in
    let deadlines = c.args.deadlines.now in
    let stored = c.args.stored.now in
    let ends = ends_running (zone_of c.args.court.now) c.args.calendar.now deadlines in
    IfOk-weaker c.changes_of_case.result _ _ (λ changes made row has right.
    subst (λ xs. AllByRecursion (λ change. touches change row ≡ false) xs) (sym made) (untouched case 1 ends stored row are has right)) c.changes_of_case.ensures

pub returns-clause-once : goal.returns-clause-once
returns-clause-once c others apart are =
    let case = c.args.case in
    let deadlines = c.args.deadlines.now in
    let stored = c.args.stored.now in
    let ends = ends_running (zone_of c.args.court.now) c.args.calendar.now deadlines in
    IfOk-weaker c.changes_of_case.result _ _ (λ changes made.
    subst (λ xs. AddsOnce xs (others ++ stored) × AddsAmong (λ k n. (k ≡ case) × (1 ≤ n) × (n ≤ length deadlines)) xs) (sym made)
    (added_beside case (length deadlines) ends stored others (length-map deadlines _) are apart)) c.changes_of_case.ensures
