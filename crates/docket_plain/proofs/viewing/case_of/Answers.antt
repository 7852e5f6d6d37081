use Rattle.std.proofs.Common.{◌≡◌, ◌∙◌, length, ap, arith}
use Rattle.docket_history.specs.Histories.{deadlines_of_case}
use Rattle.docket_decisions.proofs.Leading.{length-deadlines_from}
use Rattle.docket_plain.proofs.viewing.case_of.Goals as goal

pub new-requires : goal.new-requires
new-requires c =
    let tables = c.args.tables.now in
    let k = c.args.number in
    let count : length c.in_ok-deadlines_of.field-0.items ≡ length (deadlines_of_case k tables.deadlines.items) =
    ap length c.in_ok-deadlines_of.ensures ∙ length-deadlines_from k 1 tables.acts.items (deadlines_of_case k tables.deadlines.items) in
    omega (arith, count, c.requires.deadlines k)
